-- What follows from an answer of a search.
use Rattle.std.proofs.Common.{Option, Some, None, IfSome, IfNone, IfOk, Result, Ok, Err}
use Rattle.rt_base.specs.declared.walk.Walk.{Walk}

pub then_some : {P Q : Walk → Type 0} (o : Option Walk) → ((w : Walk) → P w → Q w) → IfSome o P → IfSome o Q
then_some None f h = tt
then_some (Some w) f h = f w h

pub then_none : {P Q : Type 0} (o : Option Walk) → (P → Q) → IfNone o P → IfNone o Q
then_none None f h = f h
then_none (Some w) f h = tt

pub then_ok : {E : Type 0} {P Q : Option Walk → Type 0} (o : Result (Option Walk) E) → ((w : Option Walk) → P w → Q w) → IfOk o P → IfOk o Q
then_ok (Ok w) f h = f w h
then_ok (Err e) f h = tt
