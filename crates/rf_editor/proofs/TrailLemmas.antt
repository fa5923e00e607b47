use Rattle.std.proofs.Common.{◌≡◌, List, [], ◌∷◌, length, Option, Some, None, IsSomeAnd, reverse, ◌++◌, refl, ap, sym, subst, ◌∙◌, arith}
use Rattle.std.specs.Option.{option_map_or}
use Rattle.std.proofs.lemmas.List.{length-reverse, reverse-append}
use Rattle.rf_show.specs.declared.undo.Undo.{Undo}
use Rattle.rf_show.specs.Show.{ShowData}
use Rattle.rf_show.specs.Taken.{taken}
use Rattle.rf_editor.specs.History.{History, undone_to, redone_to}
use Rattle.rf_editor.specs.Trail.{trail, AllLead, stack_trail, StackLeads}

some_trail : (o : Option ShowData) (P : ShowData → Type 0) (rest : ShowData → List ShowData) → IsSomeAnd o P → option_map_or (λ s. s ∷ rest s) o [] ≡ [] → ⊥
some_trail None P rest l h = absurd l
some_trail (Some s) P rest l h = cc

-- values that lead somewhere leave a trail
pub trail_empty : (us : List Undo) (s : ShowData) → AllLead us s → trail us s ≡ [] → us ≡ []
trail_empty [] s l h = refl
trail_empty (u ∷ us) s l h = absurd (some_trail (taken s u) (AllLead us) (trail us) l h)

nil_length : {X : Type 0} (xs : List X) → length xs ≡ 0 → xs ≡ []
nil_length [] h = refl
nil_length (x ∷ xs) h = absurd (omega arith)

pub stack_empty : (us : List Undo) (s : ShowData) → StackLeads us s → stack_trail us s ≡ [] → us ≡ []
stack_empty us s l h = nil_length us (sym (length-reverse us) ∙ ap length (trail_empty (reverse us) s l h))

undone_none : (h : History) (ss : List ShowData) → undone_to h ss ≡ None → ss ≡ []
undone_none h [] e = refl
undone_none h (s ∷ ss) e = cc

redone_none : (h : History) (ss : List ShowData) → redone_to h ss ≡ None → ss ≡ []
redone_none h [] e = refl
redone_none h (s ∷ ss) e = cc

-- there is nothing to undo exactly where the stack is empty
pub undo_none : (h : History) (us : List Undo) (s : ShowData) → StackLeads us s → (us ≡ [] → undone_to h (stack_trail us s) ≡ None) × (undone_to h (stack_trail us s) ≡ None → us ≡ [])
undo_none h us s l = (λ e. ap (λ us. undone_to h (stack_trail us s)) e, λ e. stack_empty us s l (undone_none h (stack_trail us s) e))

pub redo_none : (h : History) (us : List Undo) (s : ShowData) → StackLeads us s → (us ≡ [] → redone_to h (stack_trail us s) ≡ None) × (redone_to h (stack_trail us s) ≡ None → us ≡ [])
redo_none h us s l = (λ e. ap (λ us. redone_to h (stack_trail us s)) e, λ e. stack_empty us s l (redone_none h (stack_trail us s) e))

-- one value more on a stack
pub pushed : (us : List Undo) (u : Undo) (s t : ShowData) → taken t u ≡ Some s → stack_trail (us ++ u ∷ []) t ≡ s ∷ stack_trail us s
pushed us u s t h =
    ap (λ us. trail us t) (reverse-append us (u ∷ [])) ∙ ap (λ o. option_map_or (λ s. s ∷ trail (reverse us) s) o []) h

pub pushed_leads : (us : List Undo) (u : Undo) (s t : ShowData) → taken t u ≡ Some s → StackLeads us s → StackLeads (us ++ u ∷ []) t
pushed_leads us u s t h l =
    subst (λ (us : List Undo). AllLead us t) (sym (reverse-append us (u ∷ [])))
    (subst (λ (o : Option ShowData). IsSomeAnd o (λ s. AllLead (reverse us) s)) (sym h) l)

-- one value less on a stack
pub popped_leads : (us : List Undo) (u : Undo) (s t : ShowData) → taken t u ≡ Some s → StackLeads (us ++ u ∷ []) t → StackLeads us s
popped_leads us u s t h l =
    subst (λ (o : Option ShowData). IsSomeAnd o (λ s. AllLead (reverse us) s)) h
    (subst (λ (us : List Undo). AllLead us t) (reverse-append us (u ∷ [])) l)

-- another value on a stack that leads to the same show
pub replaced : (us : List Undo) (u v : Undo) (t : ShowData) → taken t v ≡ taken t u → stack_trail (us ++ v ∷ []) t ≡ stack_trail (us ++ u ∷ []) t
replaced us u v t h =
    ap (λ us. trail us t) (reverse-append us (v ∷ [])) ∙ ap (λ o. option_map_or (λ s. s ∷ trail (reverse us) s) o []) h
    ∙ sym (ap (λ us. trail us t) (reverse-append us (u ∷ [])))

pub replaced_leads : (us : List Undo) (u v : Undo) (t : ShowData) → taken t v ≡ taken t u → StackLeads (us ++ u ∷ []) t → StackLeads (us ++ v ∷ []) t
replaced_leads us u v t h l =
    subst (λ (us : List Undo). AllLead us t) (sym (reverse-append us (v ∷ [])))
    (subst (λ (o : Option ShowData). IsSomeAnd o (λ s. AllLead (reverse us) s)) (sym h)
    (subst (λ (us : List Undo). AllLead us t) (reverse-append us (u ∷ [])) l))
