-- What a run writes agrees with the plain machine, by the laws of the crates below.
use Rattle.std.proofs.Common.{◌≡◌, ◌∙◌, ◌⊎◌, inl, inr, ℕ, zero, suc, ◌-◌, ◌≤◌, ◌++◌, if◌then◌else◌, All, Bool, true, false, List, [], ◌∷◌, length, Option, None, Some, sym, ap, subst, refl, append_assoc}
use Rattle.std.specs.Prelude.{codes}
use Rattle.std.specs.Fmt.{decimal}
use Rattle.em_base.specs.declared.apps.App.{App}
use Rattle.em_base.specs.declared.events.Event.{Event}
use Rattle.em_base.specs.declared.events.Schedule.{Schedule}
use Rattle.em_base.specs.Events.{IsScript}
use Rattle.em_base.specs.Tables.{IsTable}
use Rattle.em_io.specs.Bytes.{input_limit}
use Rattle.em_trace.specs.declared.lines.Line.{Line}
use Rattle.em_trace.specs.Printed.{trace_text}
use Rattle.em_trace.specs.Schedules.{IsSchedule, most_steps}
use Rattle.em_ports.specs.Ports.{Places}
use Rattle.em_gate.specs.Boot.{boot}
use Rattle.em_gate.specs.Effects.{after_step}
use Rattle.em_gate.specs.Events.{after_event}
use Rattle.em_gate.specs.Selecting.{plain_selected}
use Rattle.em_gate.specs.State.{Plain}
use Rattle.em_script.specs.Script.{HasWords}
use Rattle.em_bundle.specs.Application.{IsApplication, IsApplicationFor}
use Rattle.em_bundle.specs.Scheduled.{with_schedule}
use Rattle.em_kernel.specs.Run.{run_steps}
use Rattle.em_plain.specs.Runs.{Went, On, Full, Misfit, and_then, events, is_full, plain_run, state_of, steps}
use Rattle.em_sched.specs.Image.{schedule_of}
use Rattle.em_sched.specs.Reads.{AreReadsWhole}
use Rattle.em_sched.specs.Traces.{AreFirstOf, Gives, IsRising, lines_in}
use Rattle.em_run.specs.declared.commands.Command.{Command}
use Rattle.em_run.specs.declared.commands.Command.TheVariants.{Run, Trial, Replay, List as ListCode, Hint, Bench}
use Rattle.em_run.specs.declared.status.Status.{Status}
use Rattle.em_run.specs.declared.status.Status.TheVariants.{Done, Lapped}
use Rattle.em_run.specs.Agreed.{HasWholeReads, IsAgreed, IsReplayed, is_run}
use Rattle.em_run.specs.Commands.{IsCommand}
use Rattle.em_run.specs.Output.{AreBytesOf, IsDue, IsOutputOf, IsReplay, IsRunOutput, Reading}
use Rattle.em_run.specs.Unhinted.{unhinted}
use Rattle.em_run.specs.Runs.{end_word, replay_text}

-- the laws that it rests on: of bundles, of runs, and of schedules
pub record RunLaws : Type 0 where
  pub table : (replay : Bool) (bytes : List ℕ) (app : App) → IsApplicationFor replay bytes app → IsTable app.table
  pub script : (replay : Bool) (bytes : List ℕ) (app : App) → IsApplicationFor replay bytes app → IsScript app.table.tasks app.script
  pub words : (replay : Bool) (bytes : List ℕ) (app : App) → IsApplicationFor replay bytes app → All HasWords app.script
  pub trace : (app : App) (ports : Places) → IsTable app.table → app.hints.hints ≡ []
      → Gives (plain_run app ports (schedule_of app ports)) (lines_in (run_steps app ports))
  pub first : (app : App) (ports : Places) → IsTable app.table → app.hints.hints ≡ []
      → AreFirstOf app (schedule_of app ports)
  pub rises : (app : App) (ports : Places) → IsTable app.table → app.hints.hints ≡ []
      → let schedule = schedule_of app ports in IsRising 0 schedule.events schedule.last
  pub valid : (app : App) (ports : Places) → IsTable app.table → app.hints.hints ≡ []
      → IsScript app.table.tasks app.script → All HasWords app.script
      → let schedule = schedule_of app ports in schedule.last ≤ most_steps → IsSchedule (length app.table.tasks) schedule
  pub whole : (app : App) (ports : Places) → IsTable app.table → app.hints.hints ≡ [] → AreReadsWhole app ports
  pub replays : (bytes : List ℕ) (app : App) (schedule : Schedule) → IsApplication bytes app → IsSchedule (length app.table.tasks) schedule
      → IsApplicationFor true (with_schedule bytes schedule) (record app { schedule = Some schedule })

-- ---- the schedule that an application has changes nothing of a plain run

abbrev with : App → Option Schedule → App
with app schedule = record app { schedule = schedule }

steps_with : (app : App) (s : Option Schedule) (n : ℕ) (p : Plain) (count : ℕ) → steps (with app s) n p count ≡ steps app n p count
unfolding steps
steps_with app s zero p count = refl
steps_with app s (suc n) p count =
    by_full (λ t. steps_with app s n (after_step app.table app.image.words (record { 0 = t }) p) (suc count)) (is_full p) (plain_selected app.table.tasks p)
  where
    by_full : ((t : ℕ) → steps (with app s) n (after_step app.table app.image.words (record { 0 = t }) p) (suc count)
        ≡ steps app n (after_step app.table app.image.words (record { 0 = t }) p) (suc count))
        → (b : Bool) (selected : Option ℕ)
        → (if b then Full p count
        else elim selected as (λ _. Went) [ None ↦ Misfit p count | Some t ↦ steps (with app s) n (after_step app.table app.image.words (record { 0 = t }) p) (suc count) ])
        ≡ (if b then Full p count
        else elim selected as (λ _. Went) [ None ↦ Misfit p count | Some t ↦ steps app n (after_step app.table app.image.words (record { 0 = t }) p) (suc count) ])
    by_full more true selected = refl
    by_full more false None = refl
    by_full more false (Some t) = more t

events_with : (app : App) (s : Option Schedule) (p : Plain) (count : ℕ) (es : List (ℕ × Event)) → events (with app s) p count es ≡ events app p count es
unfolding events
events_with app s p count [] = refl
events_with app s p count (e ∷ es) =
    ap (λ went. and_then went (λ p' count'. if is_full p' then Full p' count' else events (with app s) (after_event e.1 p') count' es)) (steps_with app s (e.0 - count) p count)
    ∙ by_went (λ p' count'. events_with app s (after_event e.1 p') count' es) (steps app (e.0 - count) p count)
  where
    by_full : (p' : Plain) (count' : ℕ) → events (with app s) (after_event e.1 p') count' es ≡ events app (after_event e.1 p') count' es → (b : Bool)
        → (if b then Full p' count' else events (with app s) (after_event e.1 p') count' es) ≡ (if b then Full p' count' else events app (after_event e.1 p') count' es)
    by_full p' count' more true = refl
    by_full p' count' more false = more

    by_went : ((p' : Plain) (count' : ℕ) → events (with app s) (after_event e.1 p') count' es ≡ events app (after_event e.1 p') count' es) → (went : Went)
        → and_then went (λ p' count'. if is_full p' then Full p' count' else events (with app s) (after_event e.1 p') count' es)
        ≡ and_then went (λ p' count'. if is_full p' then Full p' count' else events app (after_event e.1 p') count' es)
    by_went more (On p' count') = by_full p' count' (more p' count') (is_full p')
    by_went more (Full p' count') = refl
    by_went more (Misfit p' count') = refl

run_with : (app : App) (s : Option Schedule) (ports : Places) (schedule : Schedule) → plain_run (with app s) ports schedule ≡ plain_run app ports schedule
run_with app s ports schedule =
    ap (λ went. and_then went (λ p' count. steps (with app s) (schedule.last - count) p' count)) (events_with app s (boot app ports) 0 schedule.events)
    ∙ by_went (events app (boot app ports) 0 schedule.events)
  where
    by_went : (went : Went)
        → and_then went (λ p' count. steps (with app s) (schedule.last - count) p' count) ≡ and_then went (λ p' count. steps app (schedule.last - count) p' count)
    by_went (On p' count) = steps_with app s (schedule.last - count) p' count
    by_went (Full p' count) = refl
    by_went (Misfit p' count) = refl

-- ---- the replay

-- the text of a replay, its trace and the rest
abbrev rest_text : List ℕ → ℕ → List ℕ
rest_text word count = word ++ codes " " ++ decimal count ++ codes "\n"

abbrev trace_and : List Line → List ℕ → List ℕ
trace_and lines ending = codes "%trace\n" ++ trace_text lines ++ (codes "%end\n" ++ ending)

text_parts : (a b w x y z : List ℕ) → a ++ b ++ w ++ x ++ y ++ z ≡ a ++ (b ++ (w ++ x ++ y ++ z))
text_parts a b w x y z =
    ap (λ t. t ++ x ++ y ++ z) (append_assoc a b w)
    ∙ ap (λ t. t ++ y ++ z) (append_assoc a (b ++ w) x ∙ ap (λ t. a ++ t) (append_assoc b w x))
    ∙ ap (λ t. t ++ z) (append_assoc a (b ++ (w ++ x)) y ∙ ap (λ t. a ++ t) (append_assoc b (w ++ x) y))
    ∙ append_assoc a (b ++ (w ++ x ++ y)) z ∙ ap (λ t. a ++ t) (append_assoc b (w ++ x ++ y) z)

replayed_text : (lines : List Line) (word : List ℕ) (count : ℕ) → replay_text lines word count ≡ trace_and lines (rest_text word count)
replayed_text lines word count = text_parts (codes "%trace\n" ++ trace_text lines) (codes "%end\n") word (codes " ") (decimal count) (codes "\n")

-- a plain run that gives these lines is replayed so
replay_of : (went : Went) (lines : List Line) → Gives went lines → (ending : List ℕ) × IsReplay went Done (trace_and lines ending)
replay_of (On p count) lines gives =
    (rest_text (end_word false) count, (refl, ap (λ ls. trace_and ls (rest_text (end_word false) count)) (sym gives) ∙ sym (replayed_text p.lines (end_word false) count)))
replay_of (Full p count) lines gives =
    (rest_text (end_word true) count, (refl, ap (λ ls. trace_and ls (rest_text (end_word true) count)) (sym gives) ∙ sym (replayed_text p.lines (end_word true) count)))
replay_of (Misfit p count) lines gives = absurd gives

replayed : RunLaws → (bytes : List ℕ) (app : App) (before : Places) → IsApplication bytes app
    → let schedule = schedule_of (unhinted app) before in schedule.last ≤ most_steps → length (with_schedule bytes schedule) ≤ input_limit
    → IsReplayed bytes schedule before (lines_in (run_steps (unhinted app) before))
replayed laws bytes app before stands few within =
    let source = unhinted app in
    let schedule = schedule_of source before in
    let table = laws.table false bytes app stands in
    let valid = laws.valid source before table refl (laws.script false bytes app stands) (laws.words false bytes app stands) few in
    let again = with source (Some schedule) in
    let same = sym (run_with source (Some schedule) before schedule) in
    let gives = subst (λ went. Gives went (lines_in (run_steps source before))) same (laws.trace source before table refl) in
    let (ending, replays) = replay_of (plain_run again before schedule) (lines_in (run_steps source before)) gives in
    record {
      app = with app (Some schedule);
      stands = laws.replays bytes app schedule stands valid;
      ending = ending;
      after = (state_of (plain_run again before schedule)).ports;
      replays = record { schedule = schedule; given = refl; replays = replays; ports_are = refl };
    }

-- ---- what is written

agreed_run : RunLaws → (bytes : List ℕ) (app : App) (before : Places) (status : Status) (text : List ℕ) (after : Places) → IsApplication bytes app
    → IsRunOutput (unhinted app) before status text after → IsAgreed bytes before text
agreed_run laws bytes app before status text after stands output =
    let source = unhinted app in
    let table = laws.table false bytes app stands in
    record {
      app = app;
      stands = stands;
      lines = lines_in (run_steps source before);
      schedule = schedule_of source before;
      ending = _;
      text_is = output.text_is;
      run = refl;
      counted = refl;
      first = laws.first source before table refl;
      rises = laws.rises source before table refl;
      plain = laws.trace source before table refl;
      replayed = replayed laws bytes app before stands;
    }

not_run : false ≡ true → ⊥
not_run e = cc

-- the output of a run or a trial agrees
pub agreed : RunLaws → (command : Command) (bytes : List ℕ) (before : Places) (status : Status) (text : List ℕ) (after : Places)
    → IsOutputOf command bytes before status text after → is_run command ≡ true → IsAgreed bytes before text
agreed laws Run bytes before status text after h e = agreed_run laws bytes h.app before status text after h.stands h.output
agreed laws Trial bytes before status text after h e = agreed_run laws bytes h.app before status text after h.stands h.output
agreed laws Replay bytes before status text after h e = absurd (not_run e)
agreed laws ListCode bytes before status text after h e = absurd (not_run e)
agreed laws Hint bytes before status text after h e = absurd (not_run e)
agreed laws (Bench n) bytes before status text after h e = absurd (not_run e)

whole_reads : RunLaws → (bytes : List ℕ) (app : App) (before : Places) (status : Status) (text : List ℕ) (after : Places) → IsApplication bytes app
    → IsRunOutput (unhinted app) before status text after → HasWholeReads bytes before text
whole_reads laws bytes app before status text after stands output =
    record { app = app; stands = stands; text_is = output.text_is; reads = laws.whole (unhinted app) before (laws.table false bytes app stands) refl }

-- the reads of a run or a trial are whole
pub read_whole : RunLaws → (command : Command) (bytes : List ℕ) (before : Places) (status : Status) (text : List ℕ) (after : Places)
    → IsOutputOf command bytes before status text after → is_run command ≡ true → HasWholeReads bytes before text
read_whole laws Run bytes before status text after h e = whole_reads laws bytes h.app before status text after h.stands h.output
read_whole laws Trial bytes before status text after h e = whole_reads laws bytes h.app before status text after h.stands h.output
read_whole laws Replay bytes before status text after h e = absurd (not_run e)
read_whole laws ListCode bytes before status text after h e = absurd (not_run e)
read_whole laws Hint bytes before status text after h e = absurd (not_run e)
read_whole laws (Bench n) bytes before status text after h e = absurd (not_run e)

-- what is written where the status is Done or Lapped
pub record Written (words : List (List ℕ)) (read : Reading) (before : Places) (text : List ℕ) : Type 0 where
  pub command : Command
  pub bytes : List ℕ
  pub words_are : IsCommand words command
  pub read_are : AreBytesOf command read bytes
  pub agrees : is_run command ≡ true → IsAgreed bytes before text
  pub reads : is_run command ≡ true → HasWholeReads bytes before text

pub written : RunLaws → (words : List (List ℕ)) (read : Reading) (before : Places) (status : Status) (text : List ℕ) (after : Places)
    → (status ≡ Done) ⊎ (status ≡ Lapped) → IsDue words read before status text after → Written words read before text
written laws words read before status text after (inl e) due =
    let found = subst (λ s. IsDue words read before s text after) e due in
    record {
      command = found.command;
      bytes = found.due.bytes;
      words_are = found.words_are;
      read_are = found.due.read;
      agrees = agreed laws found.command found.due.bytes before Done text after found.due.due;
      reads = read_whole laws found.command found.due.bytes before Done text after found.due.due;
    }
written laws words read before status text after (inr e) due =
    let found = subst (λ s. IsDue words read before s text after) e due in
    record {
      command = found.command;
      bytes = found.due.bytes;
      words_are = found.words_are;
      read_are = found.due.read;
      agrees = agreed laws found.command found.due.bytes before Lapped text after found.due.due;
      reads = read_whole laws found.command found.due.bytes before Lapped text after found.due.due;
    }
