-- NETS (DEF 5.8, Nets).
use Rattle.std.specs.Prelude.{ℕ, ◌+◌, List, [], ◌∷◌, ◌++◌, Bool, true, false, Result, Ok, Err, bytes_eq, codes, if◌then◌else◌}
use Rattle.rt_forms.specs.Lexeme.{Place}
use Rattle.rt_forms.specs.Form.{Form, next, one, look, check, done, ◌>>=◌, choose, loop, unless, Turn, More, Done}
use Rattle.rt_forms.specs.Reading.{the_word, a_name, option_rest}
use Rattle.def_text.specs.declared.error.DefError.{DefError}
use Rattle.def_text.specs.declared.error.DefError.TheVariants.{Expected, Refused}
use Rattle.def_text.specs.declared.kinds.NetOption.{NetOption}
use Rattle.def_text.specs.declared.kinds.NetOption.TheVariants.{Wiring, Subnet, Rule, Unused}
use Rattle.def_text.specs.declared.def.DefNet.{DefNet}
use Rattle.def_text.specs.declared.nets.OpenNet.{OpenNet}
use Rattle.def_text.specs.declared.sections.Listed.{Listed}
use Rattle.def_text.specs.Kinds.{net_option_of}
use Rattle.def_text.specs.Parts.{no_bracket, here}
use Rattle.def_text.specs.Wiring.{wiring_range}
use Rattle.def_text.specs.Sections.{new_name}

-- MUSTJOIN isn't supported as a name
abbrev pub joined_by_must : Place → Result (Unit {0}) DefError
joined_by_must w = if bytes_eq w.word (codes "MUSTJOIN") then Err (Refused w.line w.word) else Ok tt

-- `)`, or `+` before SYNTHESIZED
abbrev pub connection_end : Place → Result Bool DefError
connection_end w =
    if bytes_eq w.word (codes ")") then Ok false
    else if bytes_eq w.word (codes "+") then Ok true
    else Err (Expected w.line)

-- `)` or `+ SYNTHESIZED )`
unfoldable pub connection_tail : Form DefError (Unit {0})
connection_tail = do
  more ← one connection_end
  choose more (do
    _ ← the_word (codes "SYNTHESIZED")
    the_word (codes ")")) (done tt)

-- `( comp pin [+ SYNTHESIZED] )`, or `( PIN io [+ SYNTHESIZED] )`
unfoldable pub connection : List (List ℕ × List ℕ) → Form DefError (Turn (List (List ℕ × List ℕ)))
connection pins = do
  _ ← next
  of ← a_name
  pin ← a_name
  _ ← connection_tail
  done (More (pins ++ (of.word, pin.word) ∷ []))

abbrev pub connections : Form DefError (List (List ℕ × List ℕ))
connections = loop (unless no_bracket connection) []

-- an option of wiring
unfoldable pub net_wiring : ℕ → ℕ → OpenNet → Form DefError OpenNet
net_wiring total plus net = do
  range ← wiring_range total plus
  done (record net { wiring = net.wiring ++ range ∷ [] })

-- an option behind its `+`, which has this number, in a text of so many words
abbrev pub net_option_by : NetOption → ℕ → ℕ → OpenNet → Form DefError OpenNet
net_option_by Wiring total plus net = net_wiring total plus net
net_option_by Subnet total plus net = do
  w ← next
  check (Err (Refused w.line w.word))
net_option_by Rule total plus net = do
  _ ← next
  _ ← a_name
  done (record net { skipped = net.skipped + 1 })
net_option_by Unused total plus net = do
  _ ← option_rest
  done net

unfoldable pub net_option : ℕ → ℕ → OpenNet → Form DefError OpenNet
net_option total plus net = do
  w ← look
  net_option_by (net_option_of w) total plus net

-- one more option, or the closing `;`
unfoldable pub more_net : ℕ → OpenNet → Form DefError (Turn OpenNet)
more_net total net = do
  at ← here total
  w ← next
  choose (bytes_eq w.word (codes ";")) (done (Done (record net { close = w.first }))) (
      choose (bytes_eq w.word (codes "+")) (do
        net' ← net_option total at net
        done (More net')) (
      check (Err (Expected w.line))))

-- `name` connections options `;`
unfoldable pub net_item : ℕ → Listed DefNet → Form DefError (Listed DefNet)
net_item total listed = do
  name ← a_name
  _ ← check (joined_by_must name)
  _ ← check (new_name listed.names name)
  pins ← connections
  net ← loop (more_net total) (record { wiring = []; close = 0; skipped = listed.skipped })
  done (record {
    names = listed.names ++ name.word ∷ [];
    items = listed.items ++ record { name = name.word; pins = pins; wiring = net.wiring; close = net.close } ∷ [];
    skipped = net.skipped;
  })
