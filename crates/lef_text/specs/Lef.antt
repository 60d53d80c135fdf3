-- The whole text (LEF/DEF 5.8 Language Reference, LEF Syntax).
use Rattle.std.specs.Prelude.{◌≡◌, ◌≢◌, ℕ, ◌+◌, List, [], ◌∷◌, ◌++◌, Result, Ok, Err, IfOk, IfErr, None, bytes_eq, codes, ◌⊎◌}
use Rattle.rt_base.specs.declared.token.Token.{Token}
use Rattle.rt_base.specs.declared.scan.ScanError.{ScanError}
use Rattle.rt_base.specs.declared.scan.ScanError.TheVariants as scans
use Rattle.rt_base.specs.Scan.{IsCutInto, Reads as ScansAs}
use Rattle.rt_forms.specs.Lexeme.{Place}
use Rattle.rt_forms.specs.Form.{Form, next, check, done, ◌>>=◌, choose, loop, Turn, More, Done, text}
use Rattle.rt_forms.specs.Reading.{the_word, a_name, semicolon, rest, up_to_word, up_to_pair, is_name_word}
use Rattle.rt_forms.specs.Clauses.{Gives, IsText, IsRefused}
use Rattle.lef_text.specs.declared.error.LefError.{LefError}
use Rattle.lef_text.specs.declared.error.LefError.TheVariants.{Unknown, Scan, Memory}
use Rattle.lef_text.specs.declared.lef.Lef.{Lef}
use Rattle.lef_text.specs.declared.library.Library.{Library}
use Rattle.lef_text.specs.declared.statement_words.Statement.{Statement}
use Rattle.lef_text.specs.declared.statement_words.Statement.TheVariants as statements
use Rattle.lef_text.specs.Faults.{lef_faults}
use Rattle.lef_text.specs.Words.{statement_of}
use Rattle.lef_text.specs.Numbers.{count}
use Rattle.lef_text.specs.Layers.{layer_statement}
use Rattle.lef_text.specs.Vias.{via_statement}
use Rattle.lef_text.specs.Macros.{macro_statement}

-- ---- UNITS

unfoldable pub units_line : ℕ → Form LefError (Turn ℕ)
units_line n = do
  w ← next
  choose (bytes_eq w.word (codes "DATABASE")) (do
    _ ← the_word (codes "MICRONS")
    m ← count 1 1000000
    _ ← semicolon
    done (More m)) (
      choose (bytes_eq w.word (codes "END")) (do
        _ ← the_word (codes "UNITS")
        done (Done n)) (
      choose (is_name_word w.word) (do
        _ ← rest
        done (More n))
      (check (Err (Unknown w.line)))))

abbrev pub units_statement : Library → Form LefError (Turn Library)
units_statement lib = do
  n ← loop units_line lib.units
  done (More (record lib { units = n }))

-- ---- statements that aren't used

abbrev pub unused : Library → Form LefError (Turn Library)
unused lib = do
  _ ← rest
  done (More lib)

abbrev pub section : Library → List ℕ → Form LefError (Turn Library)
section lib word = do
  _ ← up_to_pair (codes "END") word
  done (More lib)

abbrev pub extension : Library → Form LefError (Turn Library)
extension lib = do
  _ ← up_to_word (codes "ENDEXT")
  done (More lib)

-- a section with a name
unfoldable pub named_section : Form LefError (Unit {0})
named_section = do
  name ← a_name
  _ ← up_to_pair (codes "END") name.word
  done tt

abbrev pub site : Library → Form LefError (Turn Library)
site lib = do
  _ ← named_section
  done (More lib)

abbrev pub rule : Library → Form LefError (Turn Library)
rule lib = do
  _ ← named_section
  done (More (record lib { sections = lib.sections + 1 }))

abbrev pub end_of_library : Library → Form LefError (Turn Library)
end_of_library lib = do
  _ ← the_word (codes "LIBRARY")
  done (Done lib)

-- ---- the text

abbrev pub statement_by : ℕ → Library → Place → Statement → Form LefError (Turn Library)
statement_by units lib w statements.Units = units_statement lib
statement_by units lib w statements.Unused = unused lib
statement_by units lib w statements.Properties = section lib (codes "PROPERTYDEFINITIONS")
statement_by units lib w statements.Spacings = section lib (codes "SPACING")
statement_by units lib w statements.Extension = extension lib
statement_by units lib w statements.Site = site lib
statement_by units lib w statements.Rule = rule lib
statement_by units lib w statements.Layer = layer_statement units lib
statement_by units lib w statements.Via = via_statement units lib
statement_by units lib w statements.Macro = macro_statement units lib
statement_by units lib w statements.End = end_of_library lib
statement_by units lib w statements.Unknown = check (Err (Unknown w.line))

unfoldable pub statement : ℕ → Library → Form LefError (Turn Library)
statement units lib = do
  w ← next
  statement_by units lib w (statement_of w.word)

abbrev pub empty : Library
empty = record {
  units = 100;
  layers = [];
  vias = [];
  macros = [];
  dropped = [];
  skipped = [];
  sections = 0;
  top = None;
  layer_names = [];
  numbers = [];
  via_names = [];
  macro_names = [];
}

abbrev pub lef_of : Library → Lef
lef_of lib = record {
  units = lib.units;
  layers = lib.layers;
  vias = lib.vias;
  macros = lib.macros;
  dropped = lib.dropped;
  skipped = lib.skipped ++ (codes "-", lib.sections) ∷ [];
}

-- a LEF text, its lengths in so many units to the micron
unfoldable pub lef : ℕ → Form LefError Lef
lef units = do
  lib ← text (statement units) empty
  done (lef_of lib)

-- ---- from bytes

-- want of memory is one, wherever it comes
abbrev pub scan_fault : ScanError → LefError
scan_fault scans.Memory = Memory
scan_fault (scans.UnclosedQuote line) = Scan (scans.UnclosedQuote line)
scan_fault (scans.NotText line) = Scan (scans.NotText line)

-- the first fault of the text's bytes, or of its words
abbrev pub IsRefusedText : ℕ → List ℕ → LefError → Type 0
IsRefusedText units bytes e =
    ((s : ScanError) × ScansAs bytes (Err s) × (e ≡ Scan s)) ⊎ ((tokens : List Token) × IsCutInto bytes tokens × IsRefused lef_faults (lef units) bytes tokens e)

-- What a reader of bytes returned is the text's value, or its first fault, unless memory ran out.
pub record ReadsBytes (units : ℕ) (bytes : List ℕ) (r : Result Lef LefError) : Type 0 where
  -- what is read is the value of the words that the text is cut into
  pub found : IfOk r (λ l. (tokens : List Token) × IsCutInto bytes tokens × IsText (lef units) bytes tokens l)
  -- a text is read, unless memory runs out
  pub only : (tokens : List Token) (l : Lef) → IsCutInto bytes tokens → IsText (lef units) bytes tokens l → Gives lef_faults (λ x. x) r (Ok l)
  -- each fault is that of the text
  pub refused : IfErr r (λ e. e ≢ Memory → IsRefusedText units bytes e)
  -- a refused text gives its fault, unless memory runs out
  pub refuses : (e : LefError) → IsRefusedText units bytes e → Gives lef_faults (λ x. x) r (Err e)
