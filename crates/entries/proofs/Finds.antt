-- Whether a place is legal: what is decoded there decides, and a legal one lies in list memory.
-- Assumes nothing.
use mathlib.Core.Path.{◌≡◌, ◌∙◌, ap, sym}
use mathlib.Core.Bool.{true, false≢true}
use mathlib.Core.List.{List}
use Prim.Native.Nat.{ℕ, ◌/◌, ◌<◌}
use borrow.Author.Tests.{ltb-true, ltb-false}
use lib.Dec.{ltb}
use lib.ListN.{length}
use Rattle.lemmas.proofs.Booleans.{by_cases}
use Rattle.entries.specs.Layout.{decoded_of}
use Rattle.entries.specs.Legality.{decoded_legal, legal_at}
use Rattle.std.specs.Prelude.{Option}
use Rattle.entries.specs.declared.decoding.Entry.{Entry}
use Rattle.entries.proofs.Decodes.{decoded-none}

-- what is decoded at a place decides
pub legal-by : (l : List ℕ) (k : ℕ) (d e : Option Entry) → d ≡ decoded_of l k → d ≡ e → decoded_legal e ≡ legal_at l k
legal-by l k d e p q = ap decoded_legal (sym q ∙ p)

-- a legal entry lies in list memory
pub legal-inside : (l : List ℕ) (k : ℕ) → legal_at l k ≡ true → k < length l / 5
legal-inside l k e =
    by_cases (ltb k (length l / 5)) (λ t. ltb-true k (length l / 5) t)
    (λ t. absurd (false≢true (sym (ap decoded_legal (decoded-none l k (ltb-false k (length l / 5) t))) ∙ e)))
