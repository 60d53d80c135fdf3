-- Journals of the worked examples, byte for byte.
use Rattle.std.proofs.Common.{◌≡◌, [], ◌∷◌, refl}
use Rattle.std.specs.Prelude.{codes}
use Rattle.std.specs.Fmt.{digits}
use Rattle.track_graph.specs.declared.history.Block.TheVariants.{Wire, Stuck}
use Rattle.track_graph.proofs.Chip.{corner, corner_chip, crossed_blocks, crossed_chip, stubbed}
use Rattle.journal_text.specs.Lines.{journal_lines}

-- ---- one wire

corner_journal : journal_lines corner_chip (Wire 0 corner ∷ [])
    ≡ codes "journal 1\nwire a\nfrom pin 0 M1 100 100\nrun 900 100\nvia V12\nrun 900 500\nto pin 1 M2 900 500\nend\n"
unfolding digits
corner_journal = refl

no_journal : journal_lines corner_chip [] ≡ codes "journal 1\n"
unfolding digits
no_journal = refl

stub_journal : journal_lines corner_chip (Stuck 0 ∷ Wire 0 stubbed ∷ [])
    ≡ codes "journal 1\nstuck a\nwire a\nfrom stub 0 0 M1 100 100\nrun 900 100\nvia V12\nrun 900 500\nto pin 1 M2 900 500\nend\n"
unfolding digits
stub_journal = refl

-- ---- a wire that is ripped for another one, and finds another way

ripped_journal : journal_lines crossed_chip crossed_blocks
    ≡ codes "journal 1\nwire a\nfrom pin 0 M2 300 100\nvia V12\nrun 900 100\nvia V12\nto pin 1 M2 900 100\nend\nrip b\nfrom pin 0 M1 100 100\nrun 1100 100\nto pin 1 M1 1100 100\nripped a\nfrom pin 0 M1 100 100\nrun 1100 100\nto pin 1 M1 1100 100\nend\nwire a\nfrom pin 0 M2 300 100\nrun 300 300\nvia V12\nrun 900 300\nvia V12\nrun 900 100\nto pin 1 M2 900 100\nend\n"
unfolding digits
ripped_journal = refl
