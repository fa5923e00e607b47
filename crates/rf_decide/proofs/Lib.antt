pub mod CallLaws
mod KeptLines
mod PlanTexts
