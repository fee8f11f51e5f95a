use Rattle.std.proofs.Common.{IfOk, IfErr, subst}
use Rattle.std.proofs.lemmas.Result.{IfOk-weaker}
use Rattle.std.specs.Str.Lines.{lines}
use Rattle.em_base.specs.Events.{AreEarly, IsScript}
use Rattle.em_script.specs.Script.{IsScriptFail, IsScriptOf}
use Rattle.em_script.proofs.OneAnswer.{answers_events, answers_refusal}
use Rattle.em_script.proofs.ValidScript.{valid_script}
use Rattle.em_script.proofs.reading.read_script.Goals as goal

pub returns : goal.returns
returns c =
    let rows = c.args.table.now.tasks in
    let texts = lines c.args.text.now in
    let result = c.read_events.result in
    let ok : IfOk result (IsScriptOf rows texts) = subst (λ rs. IfOk result (IsScriptOf rs texts)) c.as_slice.ensures c.read_events.ensures.script in
    let err : IfErr result (IsScriptFail c.args.first rows texts) = subst (λ rs. IfErr result (IsScriptFail c.args.first rs texts)) c.as_slice.ensures c.read_events.ensures.refused in
    record {
      script = ok;
      valid = IfOk-weaker result (IsScriptOf rows texts) (IsScript rows) (λ events s. (valid_script rows texts events s).script) ok;
      early = IfOk-weaker result (IsScriptOf rows texts) AreEarly (λ events s. (valid_script rows texts events s).early) ok;
      refused = err;
      complete = λ events s. answers_events c.args.first rows texts events result ok err s;
      refuses = λ refusal r. answers_refusal c.args.first rows texts refusal result ok err r;
    }
