pub mod PlanLaws
pub mod TupleLaws
mod AlikeLemmas
mod AnalysisLemmas
mod CompanyLemmas
mod CountLemmas
mod CutLemmas
mod FormLemmas
mod FrontLemmas
mod GroupLemmas
mod HopelessLemmas
mod MergeLemmas
mod OrderLemmas
mod OutsideLemmas
mod PairLemmas
mod ProductLemmas
mod ReadyLemmas
mod RenewalLemmas
mod RisingLemmas
mod SearchLemmas
mod SizeLemmas
mod TallyLemmas
mod TouchLemmas
