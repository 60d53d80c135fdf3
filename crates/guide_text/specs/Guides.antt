-- Guides of nets (the guide files of the ISPD 2018 contest on initial detailed routing).
use Rattle.std.specs.Prelude.{ℕ, ℤ, List, [], ◌∷◌, ◌++◌, Result, Ok, Err, bytes_eq, codes, int_le, if◌then◌else◌}
use Rattle.std.specs.List.{list_any}
use Rattle.rt_base.specs.Geometry.{hull_of}
use Rattle.rt_base.specs.declared.geometry.Point.{Point}
use Rattle.rt_forms.specs.Lexeme.{Place}
use Rattle.rt_forms.specs.Form.{Form, next, one, check, done, ◌>>=◌, choose, loop, Turn, More, Done, text}
use Rattle.rt_forms.specs.Reading.{the_word, a_name, at_line}
use Rattle.rt_words.specs.Reading.{integer_of}
use Rattle.guide_text.specs.declared.error.GuideError.{GuideError}
use Rattle.guide_text.specs.declared.error.GuideError.TheVariants.{Number, EmptyBox, Twice}
use Rattle.guide_text.specs.declared.guides.Guides.{Guides}
use Rattle.guide_text.specs.declared.read.Listed.{Listed}
use Rattle.guide_text.specs.IsGuides.{Box}

-- ---- boxes

-- a number: a sign or none, and digits, at most 2^30 from 0
abbrev pub number_of : Place → Result ℤ GuideError
number_of w = at_line (λ line fault. Number line) w.line (integer_of w.word)

-- an upper end, which isn't below the lower one
abbrev pub reaching : ℤ → ℕ → Result ℤ GuideError → Result ℤ GuideError
reaching low line (Ok z) = if int_le low z then Ok z else Err (EmptyBox line)
reaching low line (Err e) = Err e

abbrev pub upper : ℤ → Place → Result ℤ GuideError
upper low w = reaching low w.line (number_of w)

-- the lower left corner behind its x
unfoldable pub corner_from : ℤ → Form GuideError Point
corner_from x = do
  y ← one number_of
  done (record { x = x; y = y })

-- the upper right corner
unfoldable pub corner_above : Point → Form GuideError Point
corner_above low = do
  x ← one (upper low.x)
  y ← one (upper low.y)
  done (record { x = x; y = y })

-- `xl yl xh yh layer` behind xl
unfoldable pub box_from : ℤ → Form GuideError Box
box_from xl = do
  low ← corner_from xl
  high ← corner_above low
  layer ← a_name
  done (layer.word, hull_of low high)

-- one more box, or `)`
unfoldable pub more_boxes : List Box → Form GuideError (Turn (List Box))
more_boxes boxes = do
  w ← next
  choose (bytes_eq w.word (codes ")")) (done (Done boxes)) (do
    xl ← check (number_of w)
    box ← box_from xl
    done (More (boxes ++ box ∷ [])))

-- ---- nets

-- a name that no net before had
abbrev pub new_name : List (List ℕ) → Place → Result (Unit {0}) GuideError
new_name names w = if list_any (bytes_eq w.word) names then Err (Twice w.line w.word) else Ok tt

-- `name ( boxes )`
unfoldable pub net : Listed → Form GuideError (Turn Listed)
net s = do
  name ← a_name
  _ ← check (new_name s.names name)
  _ ← the_word (codes "(")
  boxes ← loop more_boxes []
  done (More (record { names = s.names ++ name.word ∷ []; nets = s.nets ++ (name.word, boxes) ∷ [] }))

-- a guide text
unfoldable pub guides : Form GuideError Guides
guides = do
  s ← text net (record { names = []; nets = [] })
  done (record { nets = s.nets })
