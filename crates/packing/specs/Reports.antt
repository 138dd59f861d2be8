-- What a conversion answers (02, R-4): number, place and bytes written.
use Rattle.std.specs.Prelude.{ℕ, Result, Ok, Err}
use Rattle.packing.specs.declared.outcomes.FileRefusal.{FileRefusal}
use Rattle.packing.specs.declared.outcomes.FileRefusal.TheVariants.{WrongSize, NoEntries, TooMany, IllegalEntry, MalformedFile}

-- The papers' number, the place and the bytes written.
pub record Report : Type 0 where
  pub number : ℕ
  pub place : ℕ
  pub written : ℕ

-- (01, What the host hears) "The place is zero but in 6"; "a number that a later request returns is zero in a refusal".
abbrev pub report : ℕ → ℕ → ℕ → Report
report number place written = record { number = number; place = place; written = written }

abbrev pub report_of : Result ℕ FileRefusal → Report
report_of (Ok written) = report 0 0 written
report_of (Err WrongSize) = report 2 0 0
report_of (Err NoEntries) = report 3 0 0
report_of (Err TooMany) = report 4 0 0
report_of (Err (IllegalEntry place)) = report 6 place 0
report_of (Err MalformedFile) = report 10 0 0
