-- What holds of tables of spacings.
use Rattle.std.proofs.Common.{eqb-true, ◌≡◌, ℕ, ◌≤◌, ◌^◌, ◌==◌, Bool, true, false, List, [], ◌∷◌, ◌++◌, length, Result, Ok, Err, Option, Some, None, ℤ, ◌≤ℤ◌, ◌<ℤ◌, int_lt, refl, subst, arith}
use Rattle.std.specs.Prelude.{All, AllPairs}
use Rattle.std.proofs.lemmas.Int.{ints}
use Rattle.std.proofs.lemmas.List.{length_push}
use Rattle.std.proofs.lemmas.List.Elements.{All-push, All-weaker, All-nil, All-cons, All-head}
use Rattle.std.proofs.lemmas.List.Quantifiers.{all_pairs_push}
use Rattle.rt_base.specs.Ranges.{IsWithin}
use Rattle.rt_base.specs.Tables.{IsTable, IsTableRow}
use Rattle.rt_forms.specs.Lexeme.{Place}
use Rattle.rt_forms.specs.Form.{next, one, check, loop, Done, turn}
use Rattle.rt_words.specs.Reading.{decimal_of}
use Rattle.rt_words.specs.declared.number.NumberFault.{NumberFault}
use Rattle.lef_text.specs.declared.error.LefError.TheVariants.{Number}
use Rattle.lef_text.specs.declared.library.Lengths.{Lengths}
use Rattle.lef_text.specs.declared.library.Rows.{Rows}
use Rattle.lef_text.specs.Numbers.{number}
use Rattle.lef_text.specs.Layers.{no_table}
use Rattle.lef_text.specs.Tables as tables
use Rattle.lef_text.proofs.Yields.{Yields, yields_bind, yields_then, yields_check, yields_done, yields_one, yields_choose, OfTurn, yields_loop}
use Rattle.lef_text.proofs.Small.{decimal_small, passed_so, ok_is, on_line}

-- ---- numbers that ascend

-- at most the last number, where there is one
abbrev pub IsUpTo : Option ℤ → ℤ → Type 0
IsUpTo None n = ⊥
IsUpTo (Some last) n = n ≤ℤ last

above_all : (o : Option ℤ) (r : Result ℤ NumberFault) (n m : ℤ) → tables.above o r ≡ Ok n → IsUpTo o m → m <ℤ n
above_all None r n m h u = absurd u
above_all (Some last) (Ok k) n m h u =
    let a = passed_so (int_lt last k) _ (Ok k) n h in
    subst (λ (x : ℤ). m <ℤ x) (ok_is {N = NumberFault} k n a.1) (less m last k u a.0)
  where
    less : (m last k : ℤ) → m ≤ℤ last → int_lt last k ≡ true → m <ℤ k
    less m last k u h = grind (arith, ints)
above_all (Some last) (Err e) n m h u = absurd cc

next_is : (units : ℕ) (o : Option ℤ) (p : Place) (n m : ℤ) → tables.next_above units o p ≡ Ok n → IsUpTo o m → m <ℤ n
next_is units o p n m h u = above_all o (decimal_of p.word units) n m (on_line Number p.line _ n h) u

up_to_next : (m n : ℤ) → m <ℤ n → m ≤ℤ n
up_to_next m n h = omega (arith, ints)

-- ---- lengths

pub record AreLengths (s : Lengths) : Type 0 where
  pub some : 1 ≤ length s.numbers
  pub ascending : AllPairs (λ a b. a <ℤ b) s.numbers
  pub up_to : All (IsUpTo s.last) s.numbers

one_length_is : (n : ℤ) → AreLengths (tables.one_length n)
one_length_is n = record {
  some = omega arith;
  ascending = λ i j d lt le. absurd (omega arith);
  up_to = All-cons (IsUpTo (Some n)) n [] (omega (arith, ints)) (All-nil _);
}

lengths_more : (s : Lengths) (n : ℤ) → AreLengths s → ((m : ℤ) → IsUpTo s.last m → m <ℤ n) → AreLengths (record { numbers = s.numbers ++ n ∷ []; last = Some n })
lengths_more s n h above = record {
  some = omega (arith, length_push s.numbers n, h.some);
  ascending = all_pairs_push (λ a b. a <ℤ b) s.numbers n h.ascending (All-weaker (IsUpTo s.last) (λ (m : ℤ). m <ℤ n) above s.numbers h.up_to);
  up_to = All-push (IsUpTo (Some n)) s.numbers n (All-weaker (IsUpTo s.last) (IsUpTo (Some n)) (λ m u. up_to_next m n (above m u)) s.numbers h.up_to) (omega (arith, ints));
}

pub yields_lengths : (units : ℕ) (first : ℤ) → Yields (loop (tables.length_turn units) (tables.one_length first)) AreLengths
unfolding tables.length_turn
yields_lengths units first =
    let P = OfTurn AreLengths AreLengths in
    yields_loop (tables.length_turn units) (tables.one_length first) AreLengths AreLengths
    (λ s h. yields_then next _ P (λ w. yields_choose _ _ _ P (yields_done (Done s) P h)
    (yields_bind (check (tables.next_above units s.last w)) _ (λ (n : ℤ). (m : ℤ) → IsUpTo s.last m → m <ℤ n) P
    (yields_check _ _ (λ n e m u. next_is units s.last w n m e u))
    (λ n q. yields_done _ P (lengths_more s n h q)))))
    (one_length_is first)

-- ---- rows

abbrev pub IsSmall : ℤ → Type 0
IsSmall n = IsWithin (2 ^ 30) n

abbrev pub IsSmallRow : ℤ × List ℤ → Type 0
IsSmallRow r = All IsSmall r.1

-- as many spacings as there are lengths
record AreSpacings (k : ℕ) (xs : List ℤ) : Type 0 where
  small : All IsSmall xs
  full : length xs ≡ k

turn_spacings : (b : Bool) (k : ℕ) (xs : List ℤ) → All IsSmall xs → (b ≡ true → length xs ≡ k) → OfTurn (All IsSmall) (AreSpacings k) (turn b xs)
turn_spacings true k xs h full = record { small = h; full = full refl }
turn_spacings false k xs h full = h

number_small : (units : ℕ) → Yields (number units) IsSmall
number_small units = yields_one _ _ (λ p n h. decimal_small p.word units n (on_line Number p.line _ n h))

yields_spacings : (units k : ℕ) → Yields (loop (tables.spacing_turn units k) []) (AreSpacings k)
unfolding tables.spacing_turn
yields_spacings units k =
    let P = OfTurn (All IsSmall) (AreSpacings k) in
    yields_loop (tables.spacing_turn units k) [] (All IsSmall) (AreSpacings k)
    (λ xs h. yields_bind (number units) _ IsSmall P (number_small units) (λ n q. yields_done _ P (turn_spacings (length (xs ++ n ∷ []) == k) k (xs ++ n ∷ []) (All-push IsSmall xs n h q) (λ e. eqb-true _ _ e))))
    (All-nil _)

pub record AreRows (k : ℕ) (s : Rows) : Type 0 where
  pub full : All (IsTableRow k) s.rows
  pub small : All IsSmallRow s.rows
  pub ascending : AllPairs (λ (a b : ℤ × List ℤ). a.0 <ℤ b.0) s.rows
  pub up_to : All (λ (r : ℤ × List ℤ). IsUpTo s.last r.0) s.rows

rows_more : (k : ℕ) (s : Rows) (w : ℤ) (xs : List ℤ) → 1 ≤ k → AreRows k s → ((m : ℤ) → IsUpTo s.last m → m <ℤ w) → AreSpacings k xs → AreRows k (record { rows = s.rows ++ (w, xs) ∷ []; last = Some w })
rows_more k s w xs some h above q =
    let U : ℤ × List ℤ → Type 0 = λ r. IsUpTo s.last r.0 in
    record {
      full = All-push (IsTableRow k) s.rows (w, xs) h.full (record { some = some; full = q.full });
      small = All-push IsSmallRow s.rows (w, xs) h.small q.small;
      ascending = all_pairs_push (λ (a b : ℤ × List ℤ). a.0 <ℤ b.0) s.rows (w, xs) h.ascending (All-weaker U (λ (r : ℤ × List ℤ). r.0 <ℤ w) (λ r u. above r.0 u) s.rows h.up_to);
      up_to = All-push (λ (r : ℤ × List ℤ). IsUpTo (Some w) r.0) s.rows (w, xs) (All-weaker U (λ (r : ℤ × List ℤ). IsUpTo (Some w) r.0) (λ r u. up_to_next r.0 w (above r.0 u)) s.rows h.up_to) (omega (arith, ints));
    }

turn_rows : (b : Bool) (k : ℕ) (s : Rows) → AreRows k s → OfTurn (AreRows k) (AreRows k) (turn b s)
turn_rows true k s h = h
turn_rows false k s h = h

pub yields_rows : (units k : ℕ) → 1 ≤ k → Yields (loop (tables.row_turn units k) tables.no_rows) (AreRows k)
unfolding tables.row_turn
yields_rows units k some =
    let P = OfTurn (AreRows k) (AreRows k) in
    yields_loop (tables.row_turn units k) tables.no_rows (AreRows k) (AreRows k)
    (λ s h. yields_bind (one (tables.next_above units s.last)) _ (λ (w : ℤ). (m : ℤ) → IsUpTo s.last m → m <ℤ w) P
    (yields_one _ _ (λ p w e m u. next_is units s.last p w m e u)) (λ w above.
    yields_bind (loop (tables.spacing_turn units k) []) _ (AreSpacings k) P (yields_spacings units k) (λ xs q.
    yields_then (one tables.row_end) _ P (λ last.
    yields_done _ P (turn_rows last k (record { rows = s.rows ++ (w, xs) ∷ []; last = Some w }) (rows_more k s w xs some h above q))))))
    (record { full = All-nil _; small = All-nil _; ascending = λ i j d lt le. absurd (omega arith); up_to = All-nil _ })

-- ---- a table

pub table_is : (lengths : Lengths) (rows : Rows) → AreLengths lengths → AreRows (length lengths.numbers) rows → IsTable (record { lengths = lengths.numbers; rows = rows.rows })
table_is lengths rows l r = record { lengths = l.ascending; widths = r.ascending; rows = r.full }

pub no_table_is : IsTable no_table
no_table_is = record {
  lengths = λ i j d lt le. absurd (omega arith);
  widths = λ i j d lt le. absurd (omega arith);
  rows = All-nil (IsTableRow 0);
}

first_small : (xs : List ℤ) → All IsSmall xs → IsWithin (2 ^ 30) (tables.first_number xs)
first_small [] h = omega arith
first_small (x ∷ xs) h = All-head IsSmall x xs h

pub entry_small : (rows : List (ℤ × List ℤ)) → All IsSmallRow rows → IsWithin (2 ^ 30) (tables.first_entry rows)
entry_small [] h = omega arith
entry_small (r ∷ rs) h = first_small r.1 (All-head IsSmallRow r rs h)
