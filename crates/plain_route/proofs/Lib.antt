pub mod AnyLemmas
pub mod AnswerLemmas
pub mod CountLemmas
pub mod StockLaw
pub mod TouchLemmas
mod GuideLemmas
mod EntryLists
mod PositionLemmas
mod StepLemmas
pub mod FitLemmas
mod VertexLemmas
mod StopLemmas
mod BackLemmas
mod LegalLemmas
mod TurnLemmas
mod BoundLemmas
