-- The closing `;` of the nets of a text stand one behind the other.
use Rattle.std.proofs.Common.{◌≡◌, ◌++◌, ◌+◌, ◌<◌, ℕ, List, [], ◌∷◌, length, All, AllPairs, Result, Ok, Err, Option, Some, None, IfOk, ap, sym, subst, arith, refl, codes}
use Rattle.std.proofs.lemmas.List.Quantifiers.{all_pairs_push}
use Rattle.rt_base.specs.declared.token.Token.{Token}
use Rattle.rt_base.specs.Scan.{IsCutInto}
use Rattle.rt_base.specs.Sides.{Sides}
use Rattle.rt_forms.proofs.Laws.{ok_is}
use Rattle.rt_forms.specs.Lexeme.{Lexeme, End, Place, put, places, last_line}
use Rattle.rt_forms.specs.Form.{Form, next, check, done, ◌>>=◌, loop, nothing, More}
use Rattle.rt_forms.specs.Clauses.{IsText}
use Rattle.rt_forms.specs.Reading.{a_name, the_word, semicolon, left}
use Rattle.def_text.specs.declared.error.DefError.{DefError}
use Rattle.def_text.specs.declared.def.Def.{Def}
use Rattle.def_text.specs.declared.def.DefNet.{DefNet}
use Rattle.def_text.specs.declared.nets.OpenNet.{OpenNet}
use Rattle.def_text.specs.declared.sections.Listed.{Listed}
use Rattle.def_text.specs.declared.statements.Parsed.{Parsed}
use Rattle.def_text.specs.Defs.{AreCloses}
use Rattle.def_text.specs.Sections.{new_name, said_count, section_end, more_items}
use Rattle.def_text.specs.Parts.{a_count, once, here}
use Rattle.def_text.specs.Nets.{joined_by_must, connections, net_option, more_net, net_item}
use Rattle.def_text.specs.Texts.{nothing_read, or_none, units_statement, nets_section, statement, finished_of, finished, a_def, def_form}
use Rattle.def_text.proofs.Listing.{All-one}
use Rattle.def_text.proofs.Staying.{Stays, step, special_stays, statement_stays}
use Rattle.def_text.proofs.Closes.{AreFrom, Ascend, cut_ascends, from_rest, ascend_rest, Leads, Lasts, ByTurn, leads_bind, leads_any, leads_check, leads_done, leads_not, leads_choose, leads_loop}

-- nets that are closed before these words
record Closed (size : ℕ) (nets : List DefNet) (ws : List Lexeme) : Type 0 where
  ascending : AllPairs (λ (a b : DefNet). a.close < b.close) nets
  within : All (λ (n : DefNet). n.close < size) nets
  behind : All (λ (n : DefNet). AreFrom (n.close + 1) ws) nets
  words : Ascend size ws

closed_rest : (size : ℕ) (nets : List DefNet) (front : List Place) (rest : List Lexeme) → Closed size nets (put front rest) → Closed size nets rest
closed_rest size nets front rest h = record {
  ascending = h.ascending;
  within = h.within;
  behind = λ i d lt. from_rest _ front rest (h.behind i d lt);
  words = ascend_rest size front rest h.words;
}

closed_lasts : (size : ℕ) (nets : List DefNet) → Lasts (Closed size nets)
closed_lasts size nets = record { rest = closed_rest size nets }

-- a word of this place was taken behind the nets
record Closing (size : ℕ) (nets : List DefNet) (place : ℕ) (ws : List Lexeme) : Type 0 where
  closed : Closed size nets ws
  later : All (λ (n : DefNet). n.close < place) nets
  within : place < size
  behind : AreFrom (place + 1) ws

next_closing : (size : ℕ) (nets : List DefNet) → Leads (Closed size nets) (next {E = DefError}) (λ w ws. Closing size nets w.first ws)
next_closing size nets = record {
  to = λ front rest w h p.
      let q = subst (λ (v : List Place). Closed size nets (put v rest)) h p in
      record {
        closed = closed_rest size nets (w ∷ []) rest q;
        later = λ i d lt. let r = q.behind i d lt in omega (arith, r.0);
        within = q.words.0;
        behind = q.words.1;
      };
}

closing_closed : {A : Type 0} (size : ℕ) (nets : List DefNet) (place : ℕ) (F : Form DefError A) → Leads (Closing size nets place) F (λ a. Closed size nets)
closing_closed size nets place F = record { to = λ front rest a h p. closed_rest size nets front rest p.closed }

more_net_leads : (size total : ℕ) (nets : List DefNet) (net : OpenNet) → Leads (Closed size nets) (more_net total net) (ByTurn (λ u. Closed size nets) (λ t ws. Closing size nets t.close ws))
unfolding more_net
more_net_leads size total nets net =
    leads_bind (Closed size nets) (here total) (λ a. Closed size nets) _ _ (leads_any _ _ (closed_lasts size nets)) (λ at.
    leads_bind (Closed size nets) next (λ w ws. Closing size nets w.first ws) _ _ (next_closing size nets) (λ w.
    leads_choose _ _ _ _ _ (leads_done _ _ _ (λ ws p. p))
    (leads_choose _ _ _ _ _ (leads_bind _ (net_option total at net) (λ a. Closed size nets) _ _ (closing_closed size nets w.first (net_option total at net)) (λ t. leads_done _ _ _ (λ ws p. p)))
    (leads_not _ _ _))))

one_more : (size : ℕ) (nets : List DefNet) (n : DefNet) (ws : List Lexeme) → Closing size nets n.close ws → Closed size (nets ++ n ∷ []) ws
one_more size nets n ws h = record {
  ascending = all_pairs_push (λ (a b : DefNet). a.close < b.close) nets n h.closed.ascending h.later;
  within = All-one (λ (m : DefNet). m.close < size) nets n h.closed.within h.within;
  behind = All-one (λ (m : DefNet). AreFrom (m.close + 1) ws) nets n h.closed.behind h.behind;
  words = h.closed.words;
}

net_item_leads : (size total : ℕ) (l : Listed DefNet) → Leads (Closed size l.items) (net_item total l) (λ m. Closed size m.items)
unfolding net_item
net_item_leads size total l =
    let keeps = closed_lasts size l.items in
    leads_bind (Closed size l.items) a_name (λ a. Closed size l.items) _ _ (leads_any _ _ keeps) (λ name.
    leads_bind (Closed size l.items) (check (joined_by_must name)) (λ a. Closed size l.items) _ _ (leads_any _ _ keeps) (λ _.
    leads_bind (Closed size l.items) (check (new_name l.names name)) (λ a. Closed size l.items) _ _ (leads_any _ _ keeps) (λ _.
    leads_bind (Closed size l.items) connections (λ a. Closed size l.items) _ _ (leads_any _ _ keeps) (λ pins.
    leads_bind (Closed size l.items) (loop (more_net total) _) (λ t ws. Closing size l.items t.close ws) _ _ (leads_loop (λ u. Closed size l.items) (λ t ws. Closing size l.items t.close ws) (more_net total) (more_net_leads size total l.items) _) (λ net.
    leads_done _ _ _ (λ ws p. one_more size l.items (record { name = name.word; pins = pins; wiring = net.wiring; close = net.close }) ws p))))))

abbrev ClosedBefore : ℕ → Listed DefNet → List Lexeme → Type 0
ClosedBefore size l ws = Closed size l.items ws

more_nets_leads : (size total said : ℕ) (l : Listed DefNet) → Leads (ClosedBefore size l) (more_items (codes "NETS") said (net_item total) l) (ByTurn (ClosedBefore size) (ClosedBefore size))
unfolding more_items
more_nets_leads size total said l =
    leads_bind (ClosedBefore size l) next (λ w. ClosedBefore size l) _ _ (leads_any _ _ (closed_lasts size l.items)) (λ w.
    leads_choose _ _ _ _ _ (leads_bind _ (net_item total l) (λ m. ClosedBefore size m) _ _ (net_item_leads size total l) (λ m. leads_done _ _ _ (λ ws p. p)))
    (leads_choose _ _ _ _ _ (leads_bind _ (section_end _ _ _) (λ a. ClosedBefore size l) _ _ (leads_any _ _ (closed_lasts size l.items)) (λ _. leads_done _ _ _ (λ ws p. p)))
    (leads_not _ _ _)))

-- ---- statements

record Read (size : ℕ) (s : Parsed) (ws : List Lexeme) : Type 0 where
  closes : AreCloses size (or_none s.nets)
  words : Ascend size ws

read_lasts : (size : ℕ) (s : Parsed) → Lasts (Read size s)
read_lasts size s = record { rest = λ front rest h. record { closes = h.closes; words = ascend_rest size front rest h.words } }

begins_closed : (size : ℕ) (s : Parsed) (l : Listed DefNet) (ws : List Lexeme) → l.items ≡ [] → Read size s ws → Closed size l.items ws
begins_closed size s l ws e p = rw e (record {
  ascending = λ i j d lt within. absurd (omega arith);
  within = λ i d lt. absurd (omega arith);
  behind = λ i d lt. absurd (omega arith);
  words = p.words;
})

pre : {E A : Type 0} (P P' : List Lexeme → Type 0) (F : Form E A) (Q : A → List Lexeme → Type 0) → ((ws : List Lexeme) → P' ws → P ws) → Leads P F Q → Leads P' F Q
pre P P' F Q k l = record { to = λ front rest a h p. l.to front rest a h (k (put front rest) p) }

units_leads : (size : ℕ) (w : Place) (s : Parsed) → Leads (Read size s) (units_statement w s) (ByTurn (Read size) (Read size))
unfolding units_statement
units_leads size w s =
    step (Read size) (read_lasts size) s (check (once s.units w)) _ _ (λ a.
    step (Read size) (read_lasts size) s (the_word (codes "DISTANCE")) _ _ (λ b.
    step (Read size) (read_lasts size) s (the_word (codes "MICRONS")) _ _ (λ c.
    step (Read size) (read_lasts size) s (a_count 1 1000000) _ _ (λ units.
    step (Read size) (read_lasts size) s semicolon _ _ (λ d.
    leads_done _ (More (record s { units = Some units })) _ (λ ws p. record { closes = p.closes; words = p.words }))))))

nets_leads : (size : ℕ) (w : Place) (s : Parsed) → Leads (Read size s) (nets_section w s) (ByTurn (Read size) (Read size))
unfolding nets_section
nets_leads size w s =
    step (Read size) (read_lasts size) s (check (once s.nets w)) _ _ (λ a.
    step (Read size) (read_lasts size) s said_count _ _ (λ said.
    leads_bind (Read size s) (loop (more_items (codes "NETS") said (net_item s.total)) (record { names = []; items = []; skipped = s.skipped })) (ClosedBefore size) _ _
    (pre _ (Read size s) _ _ (λ ws p. begins_closed size s (record { names = []; items = []; skipped = s.skipped }) ws refl p) (leads_loop (ClosedBefore size) (ClosedBefore size) (more_items (codes "NETS") said (net_item s.total)) (more_nets_leads size s.total said) (record { names = []; items = []; skipped = s.skipped })))
    (λ l. leads_done _ (More (record s { nets = Some l.items; skipped = l.skipped })) _ (λ ws p. record { closes = record { ascending = p.ascending; within = p.within }; words = p.words }))))

read_same : (size : ℕ) (s t : Parsed) (ws : List Lexeme) → t.nets ≡ s.nets → Read size s ws → Read size t ws
read_same size s t ws nets p = record { closes = subst (λ (v : Option (List DefNet)). AreCloses size (or_none v)) (sym nets) p.closes; words = p.words }

read_stays : (size : ℕ) → Stays (Read size)
read_stays size = record {
  lasts = read_lasts size;
  same = λ s t ws units nets special p. read_same size s t ws nets p;
  units = units_leads size;
  nets = nets_leads size;
  special = special_stays (Read size) (read_lasts size) (λ s t ws units nets p. read_same size s t ws nets p);
}

-- ---- texts

finished_nets : (s : Parsed) (d : Def) → finished s ≡ Ok d → d.nets ≡ or_none s.nets
finished_nets s d h = go s.units s.die h
  where
    go : (u : Option ℕ) (e : Option Sides) → finished_of u e s ≡ Ok d → d.nets ≡ or_none s.nets
    go None e q = absurd cc
    go (Some u) None q = absurd cc
    go (Some u) (Some sides) q = sym (ap (λ (x : Def). x.nets) (ok_is {E = DefError} _ d q))

nothing_closed : (size : ℕ) → AreCloses size []
nothing_closed size = record { ascending = λ i j d lt within. absurd (omega arith); within = λ i d lt. absurd (omega arith) }

begins_read : (size total : ℕ) (ws : List Lexeme) → Ascend size ws → Read size (nothing_read total) ws
begins_read size total ws h = record { closes = nothing_closed size; words = h }

a_def_leads : (size : ℕ) → Leads (Ascend size) a_def (λ d ws. AreCloses size d.nets)
unfolding a_def
a_def_leads size =
    leads_bind (Ascend size) left (λ n. Ascend size) _ _ (leads_any _ _ (record { rest = λ front rest p. ascend_rest size front rest p })) (λ total.
    leads_bind (Ascend size) (loop statement (nothing_read total)) (Read size) _ _ (pre _ _ _ _ (begins_read size total) (leads_loop (Read size) (Read size) statement (statement_stays (Read size) (read_stays size)) (nothing_read total))) (λ s.
    leads_check (Read size s) (finished s) (λ d ws. AreCloses size d.nets) (λ d ws e p. subst (AreCloses size) (sym (finished_nets s d e)) p.closes)))

def_leads : (size : ℕ) → Leads (Ascend size) def_form (λ d ws. AreCloses size d.nets)
def_leads size =
    leads_bind (Ascend size) a_def (λ d ws. AreCloses size d.nets) (λ d. nothing >>= λ x. done d) _ (a_def_leads size) (λ d.
    leads_bind (λ ws. AreCloses size d.nets) nothing (λ x ws. AreCloses size d.nets) (λ x. done d) _ (leads_any _ _ (record { rest = λ front rest p. p })) (λ x.
    leads_done (λ ws. AreCloses size d.nets) d (λ e ws. AreCloses size e.nets) (λ ws p. p)))

def_closes : (text : List ℕ) (tokens : List Token) (d : Def) → IsCutInto text tokens → IsText def_form text tokens d → AreCloses (length text) d.nets
def_closes text tokens d cut h = (def_leads (length text)).to (places text tokens) (End (last_line tokens) ∷ []) d h (cut_ascends text tokens cut)

pub result_closes : (text : List ℕ) (tokens : List Token) (r : Result Def DefError) → IsCutInto text tokens → IfOk r (λ d. IsText def_form text tokens d) → IfOk r (λ d. AreCloses (length text) d.nets)
result_closes text tokens (Ok d) cut h = def_closes text tokens d cut h
result_closes text tokens (Err e) cut h = tt
