-- What an arena keeps, as it grows.
use Rattle.std.proofs.Common.{◌≡◌, ◌⊎◌, ℕ, ◌<◌, ◌≤◌, ◌≤ℤ◌, sym, ap, ◌∙◌, subst, List, [], ◌∷◌, ◌++◌, length, take, ◌-◌, arith, Bool, true, false, ◌<ℤ◌, Some, All, slice_get, slice_set, slice_index_or, ⊎_elim}
use Rattle.std.proofs.lemmas.Option.{slice_get_within, get_or_from_slice_get}
use Rattle.label_arena.specs.declared.place.Place.{Place}
use Rattle.label_arena.specs.declared.place.Interval.{Interval}
use Rattle.label_arena.specs.declared.place.Bridge.{Bridge}
use Rattle.label_arena.specs.declared.place.Run.{Run}
use Rattle.label_arena.specs.declared.place.Label.{Label}
use Rattle.label_arena.specs.Lists.{Graph}
use Rattle.label_arena.specs.Plain.{IsIn, IsInside, IsBridge, IsRun, IsJoined}
use Rattle.std.specs.List.{insert}
use Rattle.std.proofs.Math.Seq.{take-append_seam}
use Rattle.std.specs.Global.{Global}
use Rattle.smallvec.specs.declared.small_vec.SmallVec.{SmallVec}
use Rattle.std.proofs.lemmas.List.{length-map, length-set}
use Rattle.label_arena.specs.declared.group.End.{End}
use Rattle.label_arena.specs.declared.group.Group.{Group}
use Rattle.label_arena.specs.Rows.{rows_of, IsRow, AreRows, IsSorted, coord_at}
use Rattle.label_arena.specs.Groups.{IsGrouped}
use Rattle.label_arena.specs.Keeping.{AreInside, IsKept, bridge_ends, run_ends}
use Rattle.label_arena.proofs.Lists.{get_more, get_cases, length_more}
use Rattle.label_arena.proofs.Ending.{bridge_rows, run_rows}
use Rattle.label_arena.proofs.Inserting.{rows_more}
use Rattle.label_arena.proofs.Sorting.{row_is, row_got}

in_more : (is : List Interval) (i : Interval) (p : Place) → IsIn is p → IsIn (is ++ i ∷ []) p
in_more is i p h = record { interval = h.interval; at = get_more is i p.interval.0 h.interval h.at; low = h.low; high = h.high }

bridge_more : (is : List Interval) (i : Interval) (b : Bridge) → IsBridge is b → IsBridge (is ++ i ∷ []) b
bridge_more is i b h = record { a = in_more is i b.a h.a; b = in_more is i b.b h.b }

run_more : (is : List Interval) (i : Interval) (r : Run) → IsRun is r → IsRun (is ++ i ∷ []) r
run_more is i r h = record {
  a = h.a;
  b = h.b;
  a_at = get_more is i r.a.0 h.a h.a_at;
  b_at = get_more is i r.b.0 h.b h.b_at;
  level = h.level;
  direction = h.direction;
  holds = λ x l u. (in_more is i _ (h.holds x l u).0, in_more is i _ (h.holds x l u).1);
}

pub joined_interval : (is : List Interval) (bs : List Bridge) (rs : List Run) (i : Interval) → IsJoined (record { intervals = is; bridges = bs; runs = rs }) → IsJoined (record { intervals = is ++ i ∷ []; bridges = bs; runs = rs })
joined_interval is bs rs i h = record {
  bridges = λ k b at. bridge_more is i b (h.bridges k b at);
  runs = λ k r at. run_more is i r (h.runs k r at);
}

pub joined_bridge : (is : List Interval) (bs : List Bridge) (rs : List Run) (b : Bridge) → IsIn is b.a → IsIn is b.b → IsJoined (record { intervals = is; bridges = bs; runs = rs }) → IsJoined (record { intervals = is; bridges = bs ++ b ∷ []; runs = rs })
joined_bridge is bs rs b ha hb h = record {
  bridges = λ k x at. ⊎_elim
      (λ (o : slice_get bs k ≡ Some x). h.bridges k x o)
      (λ (e : (k ≡ length bs) × (x ≡ b)). subst (IsBridge is) (sym e.1) (record { a = ha; b = hb }))
      (get_cases bs b k x at);
  runs = h.runs;
}

pub joined_run : (is : List Interval) (bs : List Bridge) (rs : List Run) (r : Run) → IsRun is r → IsJoined (record { intervals = is; bridges = bs; runs = rs }) → IsJoined (record { intervals = is; bridges = bs; runs = rs ++ r ∷ [] })
joined_run is bs rs r new h = record {
  bridges = h.bridges;
  runs = λ k x at. ⊎_elim
      (λ (o : slice_get rs k ≡ Some x). h.runs k x o)
      (λ (e : (k ≡ length rs) × (x ≡ r)). subst (IsRun is) (sym e.1) new)
      (get_cases rs r k x at);
}

pub inside_interval : (is : List Interval) (bs : List Bridge) (rs : List Run) (i : Interval) (ls : List Label) → AreInside (record { intervals = is; bridges = bs; runs = rs }) ls → AreInside (record { intervals = is ++ i ∷ []; bridges = bs; runs = rs }) ls
inside_interval is bs rs i ls h k x at = in_more is i x.place (h k x at)

pub inside_label : (g : Graph) (ls : List Label) (x : Label) → IsInside g x.place → AreInside g ls → AreInside g (ls ++ x ∷ [])
inside_label g ls x new h k y at = ⊎_elim
    (λ (o : slice_get ls k ≡ Some y). h k y o)
    (λ (e : (k ≡ length ls) × (y ≡ x)). subst (λ (z : Label). IsInside g z.place) (sym e.1) new)
    (get_cases ls x k y at)

-- an empty row past all intervals
pub rows_longer : (g : Graph) (ls : List Label) (rows : List (List ℕ)) → AreInside g ls → length g.intervals ≤ length rows → AreRows ls rows → AreRows ls (rows ++ [] ∷ [])
rows_longer g ls rows inside wide h n row at = ⊎_elim
    (λ (o : slice_get rows n ≡ Some row). h n row o)
    (λ (e : (n ≡ length rows) × (row ≡ [])). subst (IsRow ls n) (sym e.1) (record {
      order = record { within = λ i l. absurd (omega arith); sorted = λ i j q l. absurd (omega arith) };
      only = λ i l. absurd (omega arith);
      every = λ k x is. let at : IsInside g x.place = inside k x is.at in absurd (omega (arith, slice_get_within g.intervals x.place.interval.0 at.interval at.at, is.on, e.0));
    }))
    (get_cases rows [] n row at)

-- no labels, and rows that are all empty
pub rows_empty : (rows : List (List ℕ)) → ((n : ℕ) (row : List ℕ) → slice_get rows n ≡ Some row → row ≡ []) → AreRows [] rows
rows_empty rows h n row at = subst (IsRow [] n) (sym (h n row at)) (record {
  order = record { within = λ i l. absurd (omega arith); sorted = λ i j q l. absurd (omega arith) };
  only = λ i l. absurd (omega arith);
  every = λ k x is. absurd (none k is.at);
})
  where
    none : {x : Label} (k : ℕ) → slice_get [] k ≡ Some x → ⊥
    none k e = cc

module _ (is : List Interval) (bs : List Bridge) (rs : List Run) (ls : List Label) (rows : List (List ℕ)) (indexed : Bool) (gb gr : Group) (h : IsKept (record { intervals = is; bridges = bs; runs = rs }) ls rows indexed gb gr) where
  -- rows, with an empty one more or not
  pub kept_rows : (new : List (List ℕ)) → (new ≡ rows) ⊎ (new ≡ rows ++ [] ∷ []) → IsKept (record { intervals = is; bridges = bs; runs = rs }) ls new indexed gb gr
  kept_rows new e = record {
    joined = h.joined;
    inside = h.inside;
    wide = ⊎_elim
        (λ (s : new ≡ rows). omega (arith, ap length s, h.wide))
        (λ (s : new ≡ rows ++ [] ∷ []). omega (arith, ap length s, length_more rows [], h.wide))
        e;
    rows_are = ⊎_elim
        (λ (s : new ≡ rows). subst (AreRows ls) (sym s) h.rows_are)
        (λ (s : new ≡ rows ++ [] ∷ []). subst (AreRows ls) (sym s) (rows_longer (record { intervals = is; bridges = bs; runs = rs }) ls rows h.inside h.wide h.rows_are))
        e;
    index = h.index;
  }

  pub kept_same : (new : List Label) (news : List (List ℕ)) → new ≡ ls → news ≡ rows → IsKept (record { intervals = is; bridges = bs; runs = rs }) new news indexed gb gr
  kept_same new news e f = rw (e, f) h

  pub kept_interval : (new : List Interval) (i : Interval) → new ≡ is ++ i ∷ [] → length is < length rows → IsKept (record { intervals = new; bridges = bs; runs = rs }) ls rows false gb gr
  kept_interval new i e wide = subst (λ (xs : List Interval). IsKept (record { intervals = xs; bridges = bs; runs = rs }) ls rows false gb gr) (sym e) (record {
    joined = joined_interval is bs rs i h.joined;
    inside = inside_interval is bs rs i ls h.inside;
    wide = omega (arith, length_more is i);
    rows_are = h.rows_are;
    index = λ f. absurd (cc);
  })

  pub kept_bridge : (new : List Bridge) (b : Bridge) → new ≡ bs ++ b ∷ [] → IsIn is b.a → IsIn is b.b → IsKept (record { intervals = is; bridges = new; runs = rs }) ls rows false gb gr
  kept_bridge new b e ha hb = subst (λ (xs : List Bridge). IsKept (record { intervals = is; bridges = xs; runs = rs }) ls rows false gb gr) (sym e) (record {
    joined = joined_bridge is bs rs b ha hb h.joined;
    inside = h.inside;
    wide = h.wide;
    rows_are = h.rows_are;
    index = λ f. absurd (cc);
  })

  pub kept_run : (new : List Run) (r : Run) → new ≡ rs ++ r ∷ [] → IsRun is r → IsKept (record { intervals = is; bridges = bs; runs = new }) ls rows false gb gr
  kept_run new r e hr = subst (λ (xs : List Run). IsKept (record { intervals = is; bridges = bs; runs = xs }) ls rows false gb gr) (sym e) (record {
    joined = joined_run is bs rs r hr h.joined;
    inside = h.inside;
    wide = h.wide;
    rows_are = h.rows_are;
    index = λ f. absurd (cc);
  })

  -- without an index the groups may be any
  pub kept_open : (hb hr : Group) → indexed ≡ false → IsKept (record { intervals = is; bridges = bs; runs = rs }) ls rows indexed hb hr
  kept_open hb hr e = record { joined = h.joined; inside = h.inside; wide = h.wide; rows_are = h.rows_are; index = λ f. absurd (cc) }

  pub kept_indexed : (hb hr : Group) → IsGrouped hb (length is) (bridge_ends 0 bs) → IsGrouped hr (length is) (run_ends 0 rs) → IsKept (record { intervals = is; bridges = bs; runs = rs }) ls rows true hb hr
  kept_indexed hb hr b r = record { joined = h.joined; inside = h.inside; wide = h.wide; rows_are = h.rows_are; index = λ f. record { bridges_are = b; runs_are = r } }

  pub kept_label : (new : List Label) (x : Label) (news : List (List ℕ)) (row : List ℕ) (at : ℕ) → new ≡ ls ++ x ∷ [] → IsIn is x.place → slice_get rows x.place.interval.0 ≡ Some row → at ≤ length row →
      ((i : ℕ) → i < at → coord_at ls row i <ℤ x.place.coord) → ((i : ℕ) → at ≤ i → i < length row → x.place.coord ≤ℤ coord_at ls row i) →
      news ≡ slice_set rows x.place.interval.0 (insert row at (length ls)) → IsKept (record { intervals = is; bridges = bs; runs = rs }) new news indexed gb gr
  kept_label new x news row at e inside is' fits before after w = subst (λ (xs : List Label). IsKept (record { intervals = is; bridges = bs; runs = rs }) xs news indexed gb gr) (sym e) (record {
    joined = h.joined;
    inside = inside_label (record { intervals = is; bridges = bs; runs = rs }) ls x inside h.inside;
    wide = omega (arith, ap length w, length-set rows x.place.interval.0 (insert row at (length ls)), h.wide);
    rows_are = subst (AreRows (ls ++ x ∷ [])) (sym w) (rows_more ls x rows row at h.rows_are is' fits before after);
    index = h.index;
  })

  pub row_sorted : (n : ℕ) (row : List ℕ) → slice_get rows n ≡ Some row → IsSorted ls row
  row_sorted n row at = (h.rows_are n row at).order

  pub within_rows : (p : Place) → IsIn is p → p.interval.0 < length rows
  within_rows p q = omega (arith, slice_get_within is p.interval.0 q.interval q.at, h.wide)

  pub bridge_ends_within : All (λ (e : End). e.row < length is) (bridge_ends 0 bs)
  bridge_ends_within = bridge_rows (length is) 0 bs (λ j b at. let q : IsBridge is b = h.joined.bridges j b at in (slice_get_within is b.a.interval.0 q.a.interval q.a.at, slice_get_within is b.b.interval.0 q.b.interval q.b.at))

  pub run_ends_within : All (λ (e : End). e.row < length is) (run_ends 0 rs)
  run_ends_within = run_rows (length is) 0 rs (λ j r at. let q : IsRun is r = h.joined.runs j r at in (slice_get_within is r.a.0 q.a q.a_at, slice_get_within is r.b.0 q.b q.b_at))

-- the label that was added last is taken away
pub popped : (ls : List Label) (x : Label) (xs new : List Label) (n : ℕ) → xs ≡ ls ++ x ∷ [] → n ≡ length xs → new ≡ take (n - 1) xs → new ≡ ls
popped ls x xs new n e l h =
    let m : n - 1 ≡ length ls = omega (arith, ap length e, length_more ls x) in
    h ∙ ap (λ (k : ℕ). take k xs) m ∙ ap (take (length ls)) e ∙ take-append_seam ls (x ∷ [])

pub kept_empty : (is : List Interval) (bs : List Bridge) (rs : List Run) (ls : List Label) (rows : List (List ℕ)) (gb gr : Group) → is ≡ [] → bs ≡ [] → rs ≡ [] → ls ≡ [] → All (λ (row : List ℕ). row ≡ []) rows → IsKept (record { intervals = is; bridges = bs; runs = rs }) ls rows false gb gr
kept_empty is bs rs ls rows gb gr ei eb er el all = rw (ei, eb, er, el) (record {
  joined = record { bridges = λ k b at. absurd (none_bridge k at); runs = λ k r at. absurd (none_run k at) };
  inside = λ k x at. absurd (none_label k at);
  wide = omega arith;
  rows_are = rows_empty rows (λ n row at. sym (get_or_from_slice_get rows n row [] at) ∙ all n [] (slice_get_within rows n row at));
  index = λ f. absurd (cc);
})
  where
    none_bridge : {x : Bridge} (k : ℕ) → slice_get [] k ≡ Some x → ⊥
    none_bridge k e = cc

    none_run : {x : Run} (k : ℕ) → slice_get [] k ≡ Some x → ⊥
    none_run k e = cc

    none_label : {x : Label} (k : ℕ) → slice_get [] k ≡ Some x → ⊥
    none_label k e = cc

pub grouped_same : (g : Group) (m n : ℕ) (es fs : List End) → m ≡ n → es ≡ fs → IsGrouped g m es → IsGrouped g n fs
grouped_same g m n es fs e f h = rw (← e, ← f) h

-- the row that was read is the interval's
pub own_row : (ls seen : List Label) (rows : List (SmallVec ℕ 2 Global)) (n : ℕ) (r : SmallVec ℕ 2 Global) (row : List ℕ) → seen ≡ ls → n < length rows → r ≡ slice_index_or rows n r → row ≡ r.items → AreRows ls (rows_of rows) → IsRow seen n row
own_row ls seen rows n r row e l is w h = subst (λ (xs : List Label). IsRow xs n row) (sym e) (h n row (row_got rows n l ∙ ap Some (sym (w ∙ row_is rows n r l is))))

pub row_count : (rows : List (SmallVec ℕ 2 Global)) → length (rows_of rows) ≡ length rows
row_count rows = length-map rows (λ (r : SmallVec ℕ 2 Global). r.items)
