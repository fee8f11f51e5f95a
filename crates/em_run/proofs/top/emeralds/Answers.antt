use Rattle.std.proofs.Common.{◌∙◌, take, inl, inr, subst}
use Rattle.em_run.specs.Output.{Wrote}
use Rattle.em_run.specs.Texts.{text_bytes}
use Rattle.em_run.proofs.Agreements.{RunLaws, written}
use Rattle.em_run.proofs.Complete.{are_left, complete, refuses, refuses_length, within_limit}
use Rattle.em_run.proofs.top.emeralds.Goals as goal

pub returns-in-Ok-clause-within : goal.returns-in-Ok-clause-within
returns-in-Ok-clause-within g c = λ other written. within_limit _ _ _ _ _ _ c.decide-due.ensures.due other

pub returns-in-Ok-clause-complete : goal.returns-in-Ok-clause-complete
returns-in-Ok-clause-complete g c = λ command bytes app words given stands still written.
    elim (complete record { some = c.one_application.ensures.some; app = c.one_application.ensures.app; refusal = c.one_application.ensures.refusal; either = c.one_application.ensures.either }
    _ _ _ _ _ _ command bytes app words given stands still c.decide-due.ensures.due) [
      | inl no_memory ↦ inl no_memory
      | inr output ↦ inr (text_bytes c.decide-due.result.text, output, subst (Wrote (g.K.Sink.written c.args.out.now) (g.K.Sink.written c.write_all.new.out)) c.as_bytes.ensures c.in-Ok.ensures.all)
    ]

pub returns-in-Ok-clause-refuses : goal.returns-in-Ok-clause-refuses
returns-in-Ok-clause-refuses g c = λ command bytes refusal words given refused still written.
    elim (refuses record { some = c.one_application.ensures.some; app = c.one_application.ensures.app; refusal = c.one_application.ensures.refusal; either = c.one_application.ensures.either }
    _ _ _ _ _ _ command bytes refusal words given refused still c.decide-due.ensures.due) [
      | inl no_memory ↦ inl no_memory
      | inr malformed ↦ inr (malformed.0, subst (Wrote (g.K.Sink.written c.args.out.now) (g.K.Sink.written c.write_all.new.out)) (c.as_bytes.ensures ∙ malformed.1) c.in-Ok.ensures.all)
    ]

pub returns-in-Ok-clause-refuses_length : goal.returns-in-Ok-clause-refuses_length
returns-in-Ok-clause-refuses_length g c = λ command bytes words reads told many still written.
    refuses_length _ _ _ _ _ _ command bytes words reads told many still c.decide-due.ensures.due

pub returns-in-Ok-clause-left : goal.returns-in-Ok-clause-left
returns-in-Ok-clause-left g c = are_left record { whole = c.whole_run.ensures } _ _ _ _ _ _ c.decide-due.ensures.due

pub returns-clause-left : goal.returns-clause-left
returns-clause-left g c = are_left record { whole = c.whole_run.ensures } _ _ _ _ _ _ c.decide-due.ensures.due

pub returns-clause-write_fault : goal.returns-clause-write_fault
returns-clause-write_fault g c = λ failed.
    let (n, within, wrote) = c.in-Err.ensures.part in
    let first = subst (λ text. Wrote (g.K.Sink.written c.args.out.now) (g.K.Sink.written c.write_all.new.out) (take n text)) c.as_bytes.ensures wrote in
    (c.in-Err.ensures.cause, (c.decide-due.result.status, text_bytes c.decide-due.result.text, n, c.decide-due.ensures.due, first))

pub returns-in-Ok-clause-agrees : goal.returns-in-Ok-clause-agrees
returns-in-Ok-clause-agrees g c = λ ended.
    let laws : RunLaws = record {
      table = c.sound_application.ensures.table;
      script = c.sound_application.ensures.script;
      words = c.sound_application.ensures.words;
      trace = c.same_trace.ensures.trace;
      first = c.same_trace.ensures.events;
      rises = c.same_trace.ensures.rises;
      valid = c.valid_schedule.ensures;
      whole = c.whole_reads.ensures;
      replays = c.replayable.ensures.app;
    } in
    let found = written laws _ _ _ _ _ _ ended c.decide-due.ensures.due in (
      found.command,
      found.bytes,
      text_bytes c.decide-due.result.text,
      found.words_are,
      found.read_are,
      subst (Wrote (g.K.Sink.written c.args.out.now) (g.K.Sink.written c.write_all.new.out)) c.as_bytes.ensures c.in-Ok.ensures.all,
      found.agrees,
    )

pub returns-in-Ok-clause-reads : goal.returns-in-Ok-clause-reads
returns-in-Ok-clause-reads g c = λ ended.
    let laws : RunLaws = record {
      table = c.sound_application.ensures.table;
      script = c.sound_application.ensures.script;
      words = c.sound_application.ensures.words;
      trace = c.same_trace.ensures.trace;
      first = c.same_trace.ensures.events;
      rises = c.same_trace.ensures.rises;
      valid = c.valid_schedule.ensures;
      whole = c.whole_reads.ensures;
      replays = c.replayable.ensures.app;
    } in
    let found = written laws _ _ _ _ _ _ ended c.decide-due.ensures.due in (
      found.command,
      found.bytes,
      text_bytes c.decide-due.result.text,
      found.words_are,
      found.read_are,
      subst (Wrote (g.K.Sink.written c.args.out.now) (g.K.Sink.written c.write_all.new.out)) c.as_bytes.ensures c.in-Ok.ensures.all,
      found.reads,
    )
