use Rattle.std.proofs.Common.{rules, Result, Ok, Err, MatchResult, IfNone}
use Rattle.std.specs.Result.{result_ok}
use Rattle.std.proofs.lemmas.Bool.{false_from_ne_true}
use Rattle.std.proofs.lemmas.Str.{is_utf8-from_IsUtf8, IsUtf8-from_is_utf8}
use Rattle.saw_xo.proofs.parts.text_in.Goals as goal

-- what an error shows
from_error : {T E : Type 0} (r : Result T E) (P : T → Type 0) (Q : E → Type 0) (R : Type 0) → MatchResult r P Q → ((e : E) → Q e → R) → IfNone (result_ok r) R
from_error (Ok x) P Q R h shows = tt
from_error (Err e) P Q R h shows = shows e h

pub returns-clause-some : goal.returns-clause-some
returns-clause-some c = search (rules, is_utf8-from_IsUtf8)

pub returns-clause-none : goal.returns-clause-none
returns-clause-none c =
    rw c.ok.ensures.value (from_error c.from_utf8.result _ _ _ c.from_utf8.ensures.cases (λ e h. false_from_ne_true _ (λ is. h.0 (IsUtf8-from_is_utf8 _ is))))
