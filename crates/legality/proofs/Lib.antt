mod FoundLemmas
mod NearLemmas
mod RowLemmas
mod RuleLemmas
