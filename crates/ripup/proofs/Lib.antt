pub mod HullLemmas
pub mod RankLemmas
pub mod HistoryLemmas
pub mod HeadlineLemmas
pub mod MarkLemmas
pub mod SearchLemmas
mod ChoiceLemmas
pub mod BlockLists
pub mod TakenLemmas
pub mod EffortLemmas
pub mod ProgressLemmas
pub mod OrderLemmas
pub mod TurnLemmas
