-- What a function answers that is lent bytes to write, and those bytes after it.
use Rattle.std.specs.Prelude.{List, ℕ}

pub record Lent (A : Type 0) : Type 0 where
  pub answer : A
  pub bytes : List ℕ

abbrev pub lent : {A : Type 0} → A → List ℕ → Lent A
lent answer bytes = record { answer = answer; bytes = bytes }
