use Rattle.std.proofs.Common.{◌≡◌, inr, ℕ, ◌+◌, ◌^◌, ◌<◌, sym, refl, ap, ◌∙◌, subst, List, [], length, Option, Some, None, slice_get, Contains, arith}
use Rattle.std.proofs.lemmas.Option.{slice_get_within, slice_get_read}
use Rattle.label_arena.specs.declared.place.Place.{Place}
use Rattle.label_arena.specs.declared.place.Label.{Label}
use Rattle.label_arena.specs.declared.place.By.TheVariants.{Source}
use Rattle.label_arena.specs.Lists.{Graph}
use Rattle.label_arena.specs.Plain.{IsInside}
use Rattle.interval_label.specs.Task.{Stop}
use Rattle.interval_label.specs.Known.{Rows}
use Rattle.interval_label.specs.State.{IsLabel, IsTask, IsRunning, Begins, source_label}
use Rattle.interval_label.specs.declared.search.Search.{Search}
use Rattle.interval_label.specs.declared.search.Best.{Best}
use Rattle.interval_label.proofs.Standing.{mark_source}
use Rattle.interval_label.proofs.Reaching.{reaches_source}
use Rattle.interval_label.proofs.Putting.{contains_at}

pub at_index : (ts : List Stop) (t : Stop) (h : Contains ts t) → slice_get ts h.0 ≡ Some t
at_index ts t h = slice_get_read ts (length ts) h.0 t refl h.1 (sym h.2)

-- a source can become a label
source_is : (g : Graph) (sources targets : List Stop) (k : ℕ) (t : Stop) → ((s : Stop) → Contains sources s → IsInside g s.0 × (s.1 < 2 ^ 60)) → slice_get sources k ≡ Some t → IsLabel g sources targets [] 0 (source_label k t)
source_is g sources targets k t inside h = record {
  inside = (inside t (contains_at sources k t h)).0;
  mark = mark_source g sources targets t.0 t.1 (contains_at sources k t h);
  traced = (k, refl);
  source = λ j e. subst (λ (n : ℕ). slice_get sources n ≡ Some t) (same k j e) h;
  reached = reaches_source g sources t (contains_at sources k t h);
}
  where
    same : (k j : ℕ) → Source k ≡ Source j → k ≡ j
    same k j e = cc

nothing : {X : Type 0} (k : ℕ) (x : X) → slice_get [] k ≡ Some x → ⊥
nothing k x h = let l : k < 0 = slice_get_within [] k x h in omega (arith, l)

-- the sources alone
pub running_begun : (g : Graph) (sources targets : List Stop) (b : Place → ℕ) (known : Option Rows) (stops : List (List ℕ)) → IsTask g sources targets b known stops → (s : Search) → Begins sources b s → IsRunning g sources targets b known [] s.queue.pairs s.best
running_begun g sources targets b known stops task s begun = record {
  sound = record {
    state = record {
      labels = λ k x h. absurd (nothing k x h);
      least = λ k x h. absurd (nothing k x h);
      waits = λ d y h.
          let o = begun.only d y h in
          subst (λ (z : Label). IsLabel g sources targets [] 0 z) (sym o.4) (source_is g sources targets o.0 o.1 task.sources_are o.2);
      keys = λ d y h.
          let o = begun.only d y h in
          let e : d ≡ o.1.1 + b o.1.0 = o.3 in
          let f : y.dist + b y.place ≡ o.1.1 + b o.1.0 = ap (λ (z : Label). z.dist + b z.place) o.4 in
          e ∙ sym f;
    };
    sources_in = λ t h. inr (record { key = t.1 + b t.0; candidate = source_label h.0 t; queued = begun.has h.0 t (at_index sources t h); place = refl; cheap = omega arith });
    spread = λ k x h. absurd (nothing k x h);
  };
  offers = record {
    from = λ r e. absurd (no_best r (sym begun.best ∙ e));
    least = λ n k c o. absurd (nothing n o.0 o.1);
  };
  ordered = λ i y h. absurd (nothing i y h);
  apart = λ i j x y h. absurd (nothing i x h);
}
  where
    no_best : (r : Best) → None ≡ Some r → ⊥
    no_best r e = cc
