-- Each net and each special net of a text has a name.
use Rattle.std.proofs.Common.{◌≡◌, ◌++◌, ℕ, Bool, true, false, List, [], ◌∷◌, All, Result, Ok, Err, Option, Some, None, IfOk, sym, subst, arith, refl, codes}
use Rattle.rt_base.specs.declared.token.Token.{Token}
use Rattle.rt_base.specs.Names.{IsName}
use Rattle.rt_base.specs.Scan.{IsCutInto}
use Rattle.rt_base.specs.Sides.{Sides}
use Rattle.rt_forms.proofs.Laws.{ok_is}
use Rattle.rt_forms.specs.Lexeme.{Lexeme, End, Place, put, places, last_line}
use Rattle.rt_forms.specs.Form.{Form, next, check, done, ◌>>=◌, loop, nothing, More}
use Rattle.rt_forms.specs.Clauses.{IsText}
use Rattle.rt_forms.specs.Reading.{a_name, the_word, semicolon, left, is_name_word, if_so}
use Rattle.def_text.specs.declared.error.DefError.{DefError}
use Rattle.def_text.specs.declared.def.Def.{Def}
use Rattle.def_text.specs.declared.def.DefNet.{DefNet}
use Rattle.def_text.specs.declared.sections.Listed.{Listed}
use Rattle.def_text.specs.declared.statements.Parsed.{Parsed}
use Rattle.def_text.specs.Defs.{IsDef}
use Rattle.def_text.specs.Sections.{new_name, said_count, section_end, more_items}
use Rattle.def_text.specs.Parts.{a_count, once}
use Rattle.def_text.specs.Nets.{joined_by_must, connections, more_net, net_item}
use Rattle.def_text.specs.Special.{special_connections, more_special, special_item}
use Rattle.def_text.specs.Texts.{nothing_read, or_none, units_statement, nets_section, special_section, statement, finished_of, finished, a_def, def_form, AreNetsNamed}
use Rattle.def_text.proofs.Listing.{All-one}
use Rattle.def_text.proofs.Named.{AreNamed, named_rest, words_named}
use Rattle.def_text.proofs.Staying.{Stays, step, statement_stays}
use Rattle.def_text.proofs.Closes.{Leads, Lasts, ByTurn, leads_bind, leads_any, leads_check, leads_done, leads_not, leads_choose, leads_loop}

abbrev IsNamedNet : DefNet → Type 0
IsNamedNet n = IsName n.name

-- ---- items

-- the nets so far have names, and so do the words that are left
record Named (nets : List DefNet) (ws : List Lexeme) : Type 0 where
  all : All IsNamedNet nets
  words : AreNamed ws

-- a word that was taken is a name, too
record Naming (nets : List DefNet) (name : List ℕ) (ws : List Lexeme) : Type 0 where
  all : All IsNamedNet nets
  words : AreNamed ws
  named : IsName name

named_lasts : (nets : List DefNet) → Lasts (Named nets)
named_lasts nets = record { rest = λ front rest h. record { all = h.all; words = named_rest front rest h.words } }

naming_lasts : (nets : List DefNet) (name : List ℕ) → Lasts (Naming nets name)
naming_lasts nets name = record { rest = λ front rest h. record { all = h.all; words = named_rest front rest h.words; named = h.named } }

the_place : (b : Bool) (p q : Place) → if_so b p ≡ Some q → (b ≡ true) × (p ≡ q)
the_place true p q h = (refl, cc)
the_place false p q h = absurd cc

name_leads : (nets : List DefNet) → Leads (Named nets) (a_name {E = DefError}) (λ p. Naming nets p.word)
name_leads nets = record {
  to = λ front rest p h n.
      let q = subst (λ (v : List Place). Named nets (put v rest)) h.1 n in
      let is = the_place (is_name_word h.0.word) h.0 p h.2 in
      record { all = q.all; words = q.words.1; named = subst (λ (x : Place). IsName x.word) is.1 (q.words.0 is.0) };
}

one_more : (nets : List DefNet) (n : DefNet) (name : List ℕ) (ws : List Lexeme) → n.name ≡ name → Naming nets name ws → Named (nets ++ n ∷ []) ws
one_more nets n name ws e h = record { all = All-one IsNamedNet nets n h.all (rw e h.named); words = h.words }

abbrev NamedItems : Listed DefNet → List Lexeme → Type 0
NamedItems l ws = Named l.items ws

net_leads : (total : ℕ) (l : Listed DefNet) → Leads (NamedItems l) (net_item total l) NamedItems
unfolding net_item
net_leads total l =
    leads_bind (NamedItems l) a_name (λ p. Naming l.items p.word) _ _ (name_leads l.items) (λ p.
    let P = Naming l.items p.word in
    let keeps = naming_lasts l.items p.word in
    leads_bind P (check (joined_by_must p)) (λ a. P) _ _ (leads_any _ _ keeps) (λ _.
    leads_bind P (check (new_name l.names p)) (λ a. P) _ _ (leads_any _ _ keeps) (λ _.
    leads_bind P connections (λ a. P) _ _ (leads_any _ _ keeps) (λ pins.
    leads_bind P (loop (more_net total) _) (λ a. P) _ _ (leads_any _ _ keeps) (λ net.
    leads_done _ _ _ (λ ws h. one_more l.items (record { name = p.word; pins = pins; wiring = net.wiring; close = net.close }) p.word ws refl h))))))

special_leads : (total : ℕ) (l : Listed DefNet) → Leads (NamedItems l) (special_item total l) NamedItems
unfolding special_item
special_leads total l =
    leads_bind (NamedItems l) a_name (λ p. Naming l.items p.word) _ _ (name_leads l.items) (λ p.
    let P = Naming l.items p.word in
    let keeps = naming_lasts l.items p.word in
    leads_bind P (check (new_name l.names p)) (λ a. P) _ _ (leads_any _ _ keeps) (λ _.
    leads_bind P special_connections (λ a. P) _ _ (leads_any _ _ keeps) (λ _.
    leads_bind P (loop (more_special total) _) (λ a. P) _ _ (leads_any _ _ keeps) (λ net.
    leads_done _ _ _ (λ ws h. one_more l.items (record { name = p.word; pins = []; wiring = net.wiring; close = net.close }) p.word ws refl h)))))

items_lead : (section : List ℕ) (said : ℕ) (item : Listed DefNet → Form DefError (Listed DefNet)) → ((l : Listed DefNet) → Leads (NamedItems l) (item l) NamedItems) → (l : Listed DefNet) → Leads (NamedItems l) (more_items section said item l) (ByTurn NamedItems NamedItems)
unfolding more_items
items_lead section said item each l =
    leads_bind (NamedItems l) next (λ w. NamedItems l) _ _ (leads_any _ _ (named_lasts l.items)) (λ w.
    leads_choose _ _ _ _ _ (leads_bind _ (item l) NamedItems _ _ (each l) (λ m. leads_done _ _ _ (λ ws p. p)))
    (leads_choose _ _ _ _ _ (leads_bind _ (section_end _ _ _) (λ a. NamedItems l) _ _ (leads_any _ _ (named_lasts l.items)) (λ _. leads_done _ _ _ (λ ws p. p)))
    (leads_not _ _ _)))

-- ---- statements

record Read (s : Parsed) (ws : List Lexeme) : Type 0 where
  special : All IsNamedNet (or_none s.special)
  nets : All IsNamedNet (or_none s.nets)
  words : AreNamed ws

read_lasts : (s : Parsed) → Lasts (Read s)
read_lasts s = record { rest = λ front rest h. record { special = h.special; nets = h.nets; words = named_rest front rest h.words } }

-- the items of a section in which none stands yet
section_leads : (s : Parsed) (section : List ℕ) (said : ℕ) (item : Listed DefNet → Form DefError (Listed DefNet)) → ((l : Listed DefNet) → Leads (NamedItems l) (item l) NamedItems) → (l : Listed DefNet) → l.items ≡ []
    → Leads (Read s) (loop (more_items section said item) l) (λ m ws. Read s ws × All IsNamedNet m.items)
section_leads s section said item each l none = record {
  to = λ front rest m h p.
      let q = (leads_loop NamedItems NamedItems (more_items section said item) (items_lead section said item each) l).to front rest m h (record { all = rw none (λ i d lt. absurd (omega arith)); words = p.words }) in
      (record { special = p.special; nets = p.nets; words = q.words }, q.all);
}

units_leads : (w : Place) (s : Parsed) → Leads (Read s) (units_statement w s) (ByTurn Read Read)
unfolding units_statement
units_leads w s =
    step Read read_lasts s (check (once s.units w)) _ _ (λ a.
    step Read read_lasts s (the_word (codes "DISTANCE")) _ _ (λ b.
    step Read read_lasts s (the_word (codes "MICRONS")) _ _ (λ c.
    step Read read_lasts s (a_count 1 1000000) _ _ (λ units.
    step Read read_lasts s semicolon _ _ (λ d.
    leads_done _ (More (record s { units = Some units })) _ (λ ws p. record { special = p.special; nets = p.nets; words = p.words }))))))

nets_leads : (w : Place) (s : Parsed) → Leads (Read s) (nets_section w s) (ByTurn Read Read)
unfolding nets_section
nets_leads w s =
    step Read read_lasts s (check (once s.nets w)) _ _ (λ a.
    step Read read_lasts s said_count _ _ (λ said.
    leads_bind (Read s) (loop (more_items (codes "NETS") said (net_item s.total)) _) (λ m ws. Read s ws × All IsNamedNet m.items) _ _
    (section_leads s (codes "NETS") said (net_item s.total) (net_leads s.total) (record { names = []; items = []; skipped = s.skipped }) refl)
    (λ l. leads_done _ (More (record s { nets = Some l.items; skipped = l.skipped })) _ (λ ws p. record { special = p.0.special; nets = p.1; words = p.0.words }))))

special_section_leads : (w : Place) (s : Parsed) → Leads (Read s) (special_section w s) (ByTurn Read Read)
unfolding special_section
special_section_leads w s =
    step Read read_lasts s (check (once s.special w)) _ _ (λ a.
    step Read read_lasts s said_count _ _ (λ said.
    leads_bind (Read s) (loop (more_items (codes "SPECIALNETS") said (special_item s.total)) _) (λ m ws. Read s ws × All IsNamedNet m.items) _ _
    (section_leads s (codes "SPECIALNETS") said (special_item s.total) (special_leads s.total) (record { names = []; items = []; skipped = s.skipped }) refl)
    (λ l. leads_done _ (More (record s { special = Some l.items; skipped = l.skipped })) _ (λ ws p. record { special = p.1; nets = p.0.nets; words = p.0.words }))))

read_stays : Stays Read
read_stays = record {
  lasts = read_lasts;
  same = λ s t ws units nets special p. record {
    special = subst (λ (v : Option (List DefNet)). All IsNamedNet (or_none v)) (sym special) p.special;
    nets = subst (λ (v : Option (List DefNet)). All IsNamedNet (or_none v)) (sym nets) p.nets;
    words = p.words;
  };
  units = units_leads;
  nets = nets_leads;
  special = special_section_leads;
}

-- ---- texts

finished_named : (s : Parsed) (d : Def) (ws : List Lexeme) → finished s ≡ Ok d → Read s ws → AreNetsNamed d
finished_named s d ws h p = go s.units s.die h
  where
    go : (u : Option ℕ) (e : Option Sides) → finished_of u e s ≡ Ok d → AreNetsNamed d
    go None e q = absurd cc
    go (Some u) None q = absurd cc
    go (Some u) (Some sides) q = subst AreNetsNamed (ok_is {E = DefError} _ d q) (record { special = p.special; nets = p.nets })

begins_read : (total : ℕ) (ws : List Lexeme) → AreNamed ws → Read (nothing_read total) ws
begins_read total ws h = record { special = λ i d lt. absurd (omega arith); nets = λ i d lt. absurd (omega arith); words = h }

statements_lead : (total : ℕ) → Leads AreNamed (loop statement (nothing_read total)) Read
statements_lead total = record {
  to = λ front rest s h p. (leads_loop Read Read statement (statement_stays Read read_stays) (nothing_read total)).to front rest s h (begins_read total (put front rest) p);
}

a_def_leads : Leads AreNamed a_def (λ d ws. AreNetsNamed d)
unfolding a_def
a_def_leads =
    leads_bind AreNamed left (λ n. AreNamed) _ _ (leads_any _ _ (record { rest = named_rest })) (λ total.
    leads_bind AreNamed (loop statement (nothing_read total)) Read _ _ (statements_lead total) (λ s.
    leads_check (Read s) (finished s) (λ d ws. AreNetsNamed d) (λ d ws e p. finished_named s d ws e p)))

def_leads : Leads AreNamed def_form (λ d ws. AreNetsNamed d)
def_leads =
    leads_bind AreNamed a_def (λ d ws. AreNetsNamed d) (λ d. nothing >>= λ x. done d) _ a_def_leads (λ d.
    leads_bind (λ ws. AreNetsNamed d) nothing (λ x ws. AreNetsNamed d) (λ x. done d) _ (leads_any _ _ (record { rest = λ front rest p. p })) (λ x.
    leads_done (λ ws. AreNetsNamed d) d (λ e ws. AreNetsNamed e) (λ ws p. p)))

pub nets_named : (text : List ℕ) (tokens : List Token) (d : Def) → IsCutInto text tokens → IsText def_form text tokens d → AreNetsNamed d
nets_named text tokens d cut h = def_leads.to (places text tokens) (End (last_line tokens) ∷ []) d h (words_named text tokens cut)

-- what was read of a text is in range, since its nets have names
pub result_named : (text : List ℕ) (tokens : List Token) (r : Result Def DefError) → IsCutInto text tokens → IfOk r (λ d. IsText def_form text tokens d) → IfOk r (λ d. AreNetsNamed d → IsDef d) → IfOk r (λ d. IsDef d)
result_named text tokens (Ok d) cut h sound = sound (nets_named text tokens d cut h)
result_named text tokens (Err e) cut h sound = tt
