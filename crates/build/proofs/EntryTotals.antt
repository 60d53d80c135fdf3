-- How many entries the pins of nets have: one number, that of the entries that are listed.
use Rattle.std.proofs.Common.{◌≡◌, inl, inr, ℕ, ◌+◌, ◌<◌, List, [], ◌∷◌, ◌++◌, length, get_or, take, refl, sym, ap, subst, ◌∙◌, arith}
use Rattle.std.specs.Prelude.{sum, sum_by}
use Rattle.std.specs.List.{AllZip, enumerate_from}
use Rattle.std.proofs.lemmas.Int.{ints}
use Rattle.std.proofs.lemmas.List.Sums.{sum_by-cons}
use Rattle.rt_base.specs.declared.geometry.Point.{Point}
use Rattle.rt_base.specs.declared.walk.Vertex.{Vertex}
use Rattle.rt_base.specs.declared.walk.Entry.{Entry}
use Rattle.track_graph.specs.declared.design.Net.{Net}
use Rattle.track_graph.specs.declared.design.Pin.{Pin}
use Rattle.track_graph.specs.Entries.{IsEntry}
use Rattle.track_graph.specs.Levels.{TrackSystem}
use Rattle.track_graph.specs.Metal.{Metal}
use Rattle.pin_access.specs.Counts.{Counts}
use Rattle.pin_access.specs.EntryOrder.{IsPointBefore, IsVertexBefore, IsEntryBefore}
use Rattle.pin_access.proofs.HowMany.{counts_unique}
use Rattle.lef_text.specs.declared.lef.Lef.{Lef}
use Rattle.def_text.specs.declared.def.Def.{Def}
use Rattle.def_text.specs.declared.def.DefNet.{DefNet}
use Rattle.build.specs.Built.{AreEntriesOf, IsPinOf, IsNetOf}
use Rattle.build.specs.EntryCounts.{PinHas, PinsHave, NetHas, NetsHave}
use Rattle.build.specs.Faults.{entry_count}
use Rattle.build.specs.Inputs.{Input}
use Rattle.build.specs.LookUps.{connected_rects}
use Rattle.build.proofs.Steps.{numbered_more, taken_more}

sum-cons : (n : ℕ) (ns : List ℕ) → sum (n ∷ ns) ≡ n + sum ns
sum-cons n ns = sum_by-cons (λ (m : ℕ). m) n ns

-- ---- the entries that are listed

point_apart : (p q : Point) → IsPointBefore p q → IsPointBefore q p → ⊥
point_apart p q (inl a) (inl b) = omega (arith, ints)
point_apart p q (inl a) (inr b) = omega (arith, ints, b.0)
point_apart p q (inr a) (inl b) = omega (arith, ints, a.0)
point_apart p q (inr a) (inr b) = omega (arith, ints, a.1, b.1)

vertex_apart : (v w : Vertex) → IsVertexBefore v w → IsVertexBefore w v → ⊥
vertex_apart v w (inl a) (inl b) = omega arith
vertex_apart v w (inl a) (inr b) = omega (arith, b.0)
vertex_apart v w (inr a) (inl b) = omega (arith, a.0)
vertex_apart v w (inr a) (inr b) = point_apart v.point w.point a.1 b.1

pub entry_apart : (e f : Entry) → IsEntryBefore e f → IsEntryBefore f e → ⊥
entry_apart e f (inl a) (inl b) = omega arith
entry_apart e f (inl a) (inr b) = omega (arith, b.0)
entry_apart e f (inr a) (inl b) = omega (arith, a.0)
entry_apart e f (inr a) (inr b) = vertex_apart e.vertex f.vertex a.1 b.1

-- entries in order differ
pub entries_counted : (g : TrackSystem) (k : ℕ) (rects : List Metal) (entries : List Entry) → AreEntriesOf g k rects entries → Counts (IsEntry g k rects) (length entries)
entries_counted g k rects entries are = record {
  those = entries;
  once = λ i j d lt within e. apart (get_or entries i d) (get_or entries j d) (are.ordered i j d lt within) e;
  exactly = are.exactly;
  count = refl;
}
  where
    apart : (e f : Entry) → IsEntryBefore e f → e ≡ f → ⊥
    apart e f h same = let s : IsEntryBefore f f = subst (λ (a : Entry). IsEntryBefore a f) same h in entry_apart f f s s

pins_counted : (lef : Lef) (def : Def) (g : TrackSystem) (said : List (ℕ × (List ℕ × List ℕ))) (pins : List Pin) → AllZip (IsPinOf lef def g) said pins → (ns : List ℕ) × AllZip (PinHas lef def g) said ns × (sum ns ≡ sum_by (λ (p : Pin). length p.entries) pins)
pins_counted lef def g [] [] h = ([], tt, refl)
pins_counted lef def g [] (p ∷ ps) h = absurd h
pins_counted lef def g (s ∷ ss) [] h = absurd h
pins_counted lef def g (s ∷ ss) (p ∷ ps) h =
    let rest = pins_counted lef def g ss ps h.1 in
    let one = subst (λ (rs : List Metal). Counts (IsEntry g s.0 rs) (length p.entries)) h.0.rects (entries_counted g s.0 p.rects p.entries h.0.entries) in
    (length p.entries ∷ rest.0, (one, rest.1), sum-cons (length p.entries) rest.0 ∙ ap (λ (n : ℕ). length p.entries + n) rest.2 ∙ sym (sum_by-cons (λ (q : Pin). length q.entries) p ps))

abbrev pin_sum : Net → ℕ
pin_sum net = sum_by (λ (pin : Pin). length pin.entries) net.pins

all_counted : (i : Input) (g : TrackSystem) (said : List DefNet) (nets : List Net) → AllZip (IsNetOf i g) said nets → (ns : List ℕ) × AllZip (NetHas i g) said ns × (sum ns ≡ entry_count nets)
all_counted i g [] [] h = ([], tt, refl)
all_counted i g [] (n ∷ ns) h = absurd h
all_counted i g (s ∷ ss) [] h = absurd h
all_counted i g (s ∷ ss) (n ∷ ns) h =
    let rest = all_counted i g ss ns h.1 in
    let pins = pins_counted i.lef i.def g (enumerate_from 0 s.pins) n.pins h.0.pins in
    let one : NetHas i g s (pin_sum n) = record { of_pins = pins.0; each = pins.1; together = pins.2 } in
    (pin_sum n ∷ rest.0, (one, rest.1), sum-cons (pin_sum n) rest.0 ∙ ap (λ (m : ℕ). pin_sum n + m) rest.2 ∙ sym (sum_by-cons pin_sum n ns))

-- what is listed is so many
pub nets_counted : (i : Input) (g : TrackSystem) (said : List DefNet) (nets : List Net) → AllZip (IsNetOf i g) said nets → NetsHave i g said (entry_count nets)
nets_counted i g said nets h = let all = all_counted i g said nets h in record { of_nets = all.0; each = all.1; together = all.2 }

-- ---- one number

pins_one : (lef : Lef) (def : Def) (g : TrackSystem) (said : List (ℕ × (List ℕ × List ℕ))) (ms ns : List ℕ) → AllZip (PinHas lef def g) said ms → AllZip (PinHas lef def g) said ns → sum ms ≡ sum ns
pins_one lef def g [] [] [] h k = refl
pins_one lef def g [] [] (n ∷ ns) h k = absurd k
pins_one lef def g [] (m ∷ ms) ns h k = absurd h
pins_one lef def g (s ∷ ss) [] ns h k = absurd h
pins_one lef def g (s ∷ ss) (m ∷ ms) [] h k = absurd k
pins_one lef def g (s ∷ ss) (m ∷ ms) (n ∷ ns) h k =
    let one : m ≡ n = counts_unique (IsEntry g s.0 (connected_rects lef def s.1)) m n h.0 k.0 in
    sum-cons m ms ∙ ap (λ (a : ℕ). a + sum ms) one ∙ ap (λ (a : ℕ). n + a) (pins_one lef def g ss ms ns h.1 k.1) ∙ sym (sum-cons n ns)

net_one : (i : Input) (g : TrackSystem) (said : DefNet) (m n : ℕ) → NetHas i g said m → NetHas i g said n → m ≡ n
net_one i g said m n h k = sym h.together ∙ pins_one i.lef i.def g (enumerate_from 0 said.pins) h.of_pins k.of_pins h.each k.each ∙ k.together

nets_one : (i : Input) (g : TrackSystem) (said : List DefNet) (ms ns : List ℕ) → AllZip (NetHas i g) said ms → AllZip (NetHas i g) said ns → sum ms ≡ sum ns
nets_one i g [] [] [] h k = refl
nets_one i g [] [] (n ∷ ns) h k = absurd k
nets_one i g [] (m ∷ ms) ns h k = absurd h
nets_one i g (s ∷ ss) [] ns h k = absurd h
nets_one i g (s ∷ ss) (m ∷ ms) [] h k = absurd k
nets_one i g (s ∷ ss) (m ∷ ms) (n ∷ ns) h k = sum-cons m ms ∙ ap (λ (a : ℕ). a + sum ms) (net_one i g s m n h.0 k.0) ∙ ap (λ (a : ℕ). n + a) (nets_one i g ss ms ns h.1 k.1) ∙ sym (sum-cons n ns)

pub nets_unique : (i : Input) (g : TrackSystem) (said : List DefNet) (m n : ℕ) → NetsHave i g said m → NetsHave i g said n → m ≡ n
nets_unique i g said m n h k = sym h.together ∙ nets_one i g said h.of_nets k.of_nets h.each k.each ∙ k.together

-- ---- one more

sum-push : (ns : List ℕ) (n : ℕ) → sum (ns ++ n ∷ []) ≡ sum ns + n
sum-push [] n = sum-cons n [] ∙ omega arith
sum-push (m ∷ ms) n = sum-cons m (ms ++ n ∷ []) ∙ ap (λ (a : ℕ). m + a) (sum-push ms n) ∙ add_up m (sum ms) n ∙ ap (λ (a : ℕ). a + n) (sym (sum-cons m ms))
  where
    add_up : (a b c : ℕ) → a + (b + c) ≡ (a + b) + c
    add_up a b c = omega arith

pub pins_none : (lef : Lef) (def : Def) (g : TrackSystem) → PinsHave lef def g [] 0
pins_none lef def g = record { of_pins = []; each = tt; together = refl }

pub pins_more : (lef : Lef) (def : Def) (g : TrackSystem) (all : List (List ℕ × List ℕ)) (k : ℕ) (c : List ℕ × List ℕ) (m n : ℕ) → k < length all → c ≡ get_or all k c → PinsHave lef def g (take k all) m → Counts (IsEntry g k (connected_rects lef def c)) n → PinsHave lef def g (take (k + 1) all) (m + n)
pins_more lef def g all k c m n within at before here = record {
  of_pins = before.of_pins ++ n ∷ [];
  each = numbered_more (PinHas lef def g) all k c before.of_pins n within at before.each here;
  together = sum-push before.of_pins n ∙ ap (λ (a : ℕ). a + n) before.together;
}

pub nets_none : (i : Input) (g : TrackSystem) → NetsHave i g [] 0
nets_none i g = record { of_nets = []; each = tt; together = refl }

pub nets_more : (i : Input) (g : TrackSystem) (all : List DefNet) (k : ℕ) (net : DefNet) (m n : ℕ) → k < length all → net ≡ get_or all k net → NetsHave i g (take k all) m → NetHas i g net n → NetsHave i g (take (k + 1) all) (m + n)
nets_more i g all k net m n within at before here = record {
  of_nets = before.of_nets ++ n ∷ [];
  each = taken_more (NetHas i g) all k net before.of_nets n within at before.each here;
  together = sum-push before.of_nets n ∙ ap (λ (a : ℕ). a + n) before.together;
}
