use Rattle.std.proofs.Common.{◌≡◌, ◌∙◌, ℕ, Contains, None, Some, Option, slice_get, subst, sym}
use Rattle.std.proofs.lemmas.Bool.{false≢true}
use Rattle.track_graph.specs.Entries.{entries_of}
use Rattle.track_graph.proofs.WalkLemmas.{entry-named}
use Rattle.block_check.proofs.starts.is_at_pin.Goals as goal

none_some : (pin : ℕ) → (let o : Option ℕ = None in o ≡ Some pin) → ⊥
none_some pin h = cc

same_pin : (a b : ℕ) → (let o : Option ℕ = Some a in o ≡ Some b) → a ≡ b
same_pin a b h = cc

pub returns-in-None : goal.returns-in-None
returns-in-None c = (
  λ yes. absurd (false≢true yes),
  λ h. absurd (none_some h.0 (sym c.in-None.is ∙ c.pin_of.ensures ∙ entry-named c.args.design.now c.args.net h.0 c.args.entry.now c.requires h.2)),
)

pub returns-in-Some : goal.returns-in-Some
returns-in-Some c = (
  λ yes. let h = c.is_at.ensures.0 yes in (c.in-Some.pin, h.0, h.1),
  λ h.
      let same : h.0 ≡ c.in-Some.pin = same_pin h.0 c.in-Some.pin (sym (sym c.in-Some.is ∙ c.pin_of.ensures ∙ entry-named c.args.design.now c.args.net h.0 c.args.entry.now c.requires h.2)) in
      c.is_at.ensures.1 (subst (λ (k : ℕ). slice_get c.args.joined.now k ≡ Some c.args.wanted) same h.1, subst (λ (k : ℕ). Contains (entries_of c.args.design.now c.args.net k) c.args.entry.now) same h.2),
)
