-- What is answered where lines are those of a script, and where they are refused.
use Rattle.std.proofs.Common.{◌≡◌, ◌∙◌, ℕ, List, Result, Ok, Err, IfOk, IfErr, MatchResult, inl, inr, ◌⊎◌, refl, sym, ap}
use Rattle.em_base.specs.declared.events.Timed.{Timed}
use Rattle.em_base.specs.declared.refusals.Fail.{Fail}
use Rattle.em_base.specs.declared.refusals.Fail.TheVariants.{Refused, NoMemory}
use Rattle.em_base.specs.declared.refusals.Refusal.{Refusal}
use Rattle.em_base.specs.declared.tables.TaskRow.{TaskRow}
use Rattle.em_script.specs.Script.{IsScriptFail, IsScriptRefused, IsScriptOf}
use Rattle.em_script.proofs.OneScript.{one_script_refusal, script_or_refused}

-- lines of a script are answered with their events
pub answers_events : (first : ℕ) (rows : List TaskRow) (lines : List (List ℕ)) (events : List Timed) (result : Result (List Timed) Fail)
    → IfOk result (IsScriptOf rows lines) → IfErr result (IsScriptFail first rows lines) → IsScriptOf rows lines events
    → MatchResult result (λ found. found ≡ events) (λ fail. fail ≡ NoMemory)
answers_events first rows lines events (Ok found) ok err s = ok.same ∙ sym s.same
answers_events first rows lines events (Err NoMemory) ok err s = refl
answers_events first rows lines events (Err (Refused refusal)) ok err s = absurd (script_or_refused first rows lines events refusal s err)

-- lines that are refused are answered with their refusal
pub answers_refusal : (first : ℕ) (rows : List TaskRow) (lines : List (List ℕ)) (refusal : Refusal) (result : Result (List Timed) Fail)
    → IfOk result (IsScriptOf rows lines) → IfErr result (IsScriptFail first rows lines) → IsScriptRefused first rows lines refusal
    → MatchResult result (λ _. ⊥) (λ fail. (fail ≡ Refused refusal) ⊎ (fail ≡ NoMemory))
answers_refusal first rows lines refusal (Ok found) ok err r = script_or_refused first rows lines found refusal ok r
answers_refusal first rows lines refusal (Err NoMemory) ok err r = inr refl
answers_refusal first rows lines refusal (Err (Refused other)) ok err r = inl (ap (λ x. Refused x) (one_script_refusal first rows lines other refusal err r))
