-- What a call answers (01, What the host hears): number, place and steps.
use Rattle.std.specs.Prelude.{Bool, true, false, ℕ, Result, Ok, Err}
use Rattle.std.specs.declared.ops.ControlFlow.{ControlFlow}
use Rattle.std.specs.declared.ops.ControlFlow.TheVariants.{Continue, Break}
use Rattle.pictures.specs.declared.reading.ReadError.{ReadError}
use Rattle.pictures.specs.declared.reading.ReadError.TheVariants.{WrongSize as OtherSize, NotAPicture as Unreadable}
use Rattle.pictures.specs.declared.writing.WriteError.{WriteError}
use Rattle.pictures.specs.declared.writing.WriteError.TheVariants.{WrongSize as Unfit, TooShort}
use Rattle.answers.specs.declared.Refusal.{Refusal}
use Rattle.answers.specs.declared.Refusal.TheVariants.{Malformed, WrongSize, NoEntries, PastTheEnd, SlotsFull, IllegalEntry, Busy, EntryHeld, IllegalFetch, NotAPicture}

-- Document 01's number, the place and the steps.
pub record Report : Type 0 where
  pub number : ℕ
  pub place : ℕ
  pub steps : ℕ

-- "The place is zero but in 6, the step count but in 9 and in a done run". 11 is import's (02, R-9); 10 is no call's of a board.
abbrev pub report : ℕ → ℕ → ℕ → Report
report number place steps = record { number = number; place = place; steps = steps }

abbrev pub report_of : Result ℕ Refusal → Report
report_of (Ok steps) = report 0 0 steps
report_of (Err Malformed) = report 1 0 0
report_of (Err WrongSize) = report 2 0 0
report_of (Err NoEntries) = report 3 0 0
report_of (Err PastTheEnd) = report 4 0 0
report_of (Err SlotsFull) = report 5 0 0
report_of (Err (IllegalEntry place)) = report 6 place 0
report_of (Err Busy) = report 7 0 0
report_of (Err EntryHeld) = report 8 0 0
report_of (Err (IllegalFetch steps)) = report 9 0 steps
report_of (Err NotAPicture) = report 11 0 0

-- A picture that is not read, and one that is not written (02, R-9): "2 for board buffers; 4 exactly where the output is shorter than
-- the picture needs; .. 11 for input that isn't such a picture".
abbrev pub unread : ReadError → Refusal
unread OtherSize = WrongSize
unread Unreadable = NotAPicture

abbrev pub unwritten : WriteError → Refusal
unwritten Unfit = WrongSize
unwritten TooShort = PastTheEnd

-- A part of a run: it ends the run with an answer, or leaves more of it to come after so many steps.
abbrev pub status_in : ControlFlow (Result ℕ Refusal) ℕ → Result ℕ Refusal
status_in (Continue steps) = Ok steps
status_in (Break status) = status

abbrev pub goes_on : ControlFlow (Result ℕ Refusal) ℕ → Bool
goes_on (Continue steps) = true
goes_on (Break status) = false
