use Rattle.rf_session.proofs.Ending.{Ends-headline, Ends-named, Ends-well}
use Rattle.rf_session.proofs.top.run.Goals as goal

pub returns-clause-headline : goal.returns-clause-headline
returns-clause-headline g c = Ends-headline _ _ _ _ c.do_asked.ensures.ends

pub returns-clause-done : goal.returns-clause-done
returns-clause-done g c = Ends-named _ _ _ _ _ c.do_asked.ensures.ends

pub returns-clause-refused : goal.returns-clause-refused
returns-clause-refused g c = Ends-named _ _ _ _ _ c.do_asked.ensures.ends

pub returns-clause-words : goal.returns-clause-words
returns-clause-words g c = Ends-named _ _ _ _ _ c.do_asked.ensures.ends

pub returns-clause-read : goal.returns-clause-read
returns-clause-read g c = Ends-named _ _ _ _ _ c.do_asked.ensures.ends

pub returns-clause-write : goal.returns-clause-write
returns-clause-write g c = Ends-named _ _ _ _ _ c.do_asked.ensures.ends

pub returns-clause-shelf : goal.returns-clause-shelf
returns-clause-shelf g c = Ends-named _ _ _ _ _ c.do_asked.ensures.ends

pub returns-clause-memory : goal.returns-clause-memory
returns-clause-memory g c = Ends-named _ _ _ _ _ c.do_asked.ensures.ends

pub returns-clause-long : goal.returns-clause-long
returns-clause-long g c = Ends-named _ _ _ _ _ c.do_asked.ensures.ends

pub returns-clause-complete : goal.returns-clause-complete
returns-clause-complete g c = Ends-well _ _ _ _ c.do_asked.ensures.ends
