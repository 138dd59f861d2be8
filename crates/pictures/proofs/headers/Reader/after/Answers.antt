-- Inside a comment bytes are dropped up to its end (`in-comment`); outside, one starts (`comment-starts`), or the stage goes on by
-- the byte (`text-byte`).
use mathlib.Core.Path.{sym, ◌∙◌}
use Rattle.pictures.proofs.Stages.{other-broken}
use Rattle.pictures.proofs.Readers.{in-comment, comment-starts, text-byte}
use borrow.Author.Rules.{rules}
use Rattle.pictures.proofs.headers.Reader.after.Goals as goal

pub returns-then-self : goal.returns-then-self
returns-then-self c = in-comment _ _ _ _ _ c.if-self.true c.ends_comment.ensures

pub returns-then-b-eq35 : goal.returns-then-b-eq35
returns-then-b-eq35 c = comment-starts _ _ _ _ c.if-self.false c.if-b-eq35.true

pub digit-requires : goal.digit-requires
digit-requires c = sym c.is_ascii_digit.ensures.value ∙ c.if-is_ascii_digit.true

pub returns-then-is_ascii_digit : goal.returns-then-is_ascii_digit
returns-then-is_ascii_digit c =
    let o = c.before.before.before in
    text-byte _ _ _ _ _ o.if-self.false o.if-b-eq35.false (c.digit.ensures _ _ (search rules) (search rules))

pub returns-then-is_white : goal.returns-then-is_white
returns-then-is_white c =
    let o = c.before.before.before.before.before in
    text-byte _ _ _ _ _ o.if-self.false o.if-b-eq35.false
    (c.white.ensures _ (sym c.is_white.ensures ∙ c.if-is_white.true))

pub returns : goal.returns
returns c =
    let d = c.before in
    let o = d.before.before.before in
    text-byte _ _ _ _ _ o.if-self.false o.if-b-eq35.false
    (other-broken _ _ _ _ (sym c.is_white.ensures ∙ c.if-is_white.false) (sym d.is_ascii_digit.ensures.value ∙ d.if-is_ascii_digit.false))
