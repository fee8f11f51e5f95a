-- What a kernel stands for after a step of a copy.
use Rattle.std.proofs.Common.{◌≡◌, ◌∙◌, ℕ, ◌+◌, ◌<◌, List, [], ◌∷◌, ◌++◌, length, slice_set, false, Option, None, Some, sym, ap, subst, refl, arith}
use Rattle.std.proofs.lemmas.List.{get_or-set_same, length-map, length-set, set-set}
use Rattle.em_base.specs.declared.apps.App.{App}
use Rattle.em_base.specs.declared.events.Timed.{Timed}
use Rattle.em_base.specs.declared.ids.MsgId.{MsgId}
use Rattle.em_base.specs.declared.ids.SemId.{SemId}
use Rattle.em_base.specs.declared.ids.TaskId.{TaskId}
use Rattle.em_base.specs.Selection.{selected}
use Rattle.em_ports.specs.Ports.{Places}
use Rattle.em_trace.specs.declared.lines.Line.{Line}
use Rattle.em_trace.specs.declared.lines.Line.TheVariants.{Get, Put}
use Rattle.em_gate.specs.Calls.{words_of}
use Rattle.em_gate.specs.Effects.{after_answer, after_outcome, frees, gives, line_by, newest, option_list, own_after, owners_after, ports_after, shared_after, values_after, with_core, words_at}
use Rattle.em_gate.specs.Outcome.{Publishes}
use Rattle.em_gate.specs.Selecting.{scene_in}
use Rattle.em_gate.specs.State.{Copy, Core, Counted, Plain, Reads, Task, Value, Writes, no_task, task_at, values_at}
use Rattle.em_demand.specs.Charges.{charges_of}
use Rattle.em_kernel.specs.declared.did.StepKind.TheVariants.{BeginRead, BeginWrite, Copy as CopyStep, Publish}
use Rattle.em_kernel.specs.declared.did.What.TheVariants.{Stepped}
use Rattle.em_kernel.specs.declared.meter.Meter.{Meter}
use Rattle.em_kernel.specs.Buffers.{HasBegun, HasPublished, HasPut, IsTaken}
use Rattle.em_kernel.specs.Kept.{IsCurrent, Keep, Stands, buffer_at}
use Rattle.em_kernel.specs.Metered.{did_of, passed, with_one}
use Rattle.em_kernel.specs.Moves.{EndsRead, EndsWrite, PutsWord, StartsRead, StartsWrite, TakesWord, after_move, begun_at, get_line, move_line, noted_word, published, with_core_at, with_word_put}
use Rattle.em_kernel.specs.Step.{stepped}
use Rattle.em_state.specs.Buffers.{Kept as Buffer, StandsFor}
use Rattle.em_system.specs.Held.{Held, Holds, answered, held_answered, promises_of, tasks_of}
use Rattle.em_system.specs.Standings.{number_of}
use Rattle.em_system.specs.Windows.{core_in, held_word_put, with_words_from}
use Rattle.em_system.proofs.Stands.{own_step, own_tasks, promises_same}
use Rattle.em_kernel.proofs.Carrying.{begun_more, begun_same, drafted, keep_published, keep_same, newest_is}
use Rattle.em_kernel.proofs.Moved.{passed_step}
use Rattle.em_kernel.proofs.Settling.{lines_of_step}
use Rattle.em_kernel.proofs.Steps.{Carries, Mail, keeps, lines_counted}

-- ---- what a kernel stands for, by its parts

abbrev pub mail_of : List Buffer → List (Option Copy) → Mail
mail_of buffers copies = record { buffers = buffers; copies = copies }

pub record Stood (held : Held) (mail : Mail) (places : Places) (c : Counted) (meter : Meter) (left : List Timed) : Type 0 where
  pub holds : Holds held c.plain c.promises
  pub ports : places ≡ c.plain.ports
  pub carries : Carries mail c
  pub later : left ≡ c.left
  pub clock : meter.clock ≡ c.clock
  pub current : meter.current ≡ c.current
  pub lines : meter.count ≡ length c.plain.lines

pub stood_by : (app : App) (held : Held) (mail : Mail) (places : Places) (c : Counted) (meter : Meter) (left : List Timed)
    → Stands (keeps app held mail left meter) places c → Stood held mail places c meter left
stood_by app held mail places c meter left s = record {
  holds = record { tasks = s.tasks; promised = s.promises; owners = s.owners; shared = s.shared };
  ports = s.ports;
  carries = record { values = s.values; begun = s.begun; copies = s.copies };
  later = s.left;
  clock = s.clock;
  current = s.current;
  lines = s.lines;
}

-- the task that goes on is the selected one of what is held
abbrev pub Selects : App → Meter → Held → Type 0
Selects app meter held = number_of meter.selected ≡ selected (scene_in app.table.tasks (tasks_of held.threads) (promises_of held.threads) held.owners)

-- ---- a write

pub starts_write : (app app' : App) (held : Held) (buffers : List Buffer) (copies : List (Option Copy)) (places : Places) (c : Counted) (t : TaskId) (m : MsgId) (at : ℕ) (b : Buffer)
    (cost : ℕ) (meter meter' : Meter) (left : List Timed)
    → app' ≡ app → (charges_of app.table).call ≡ cost → meter' ≡ passed meter None cost → IsCurrent (number_of meter.selected) meter.current
    → Stood held (mail_of buffers copies) places c meter left → Selects app meter held → m.0 < length buffers → HasBegun (buffer_at buffers m.0) b
    → Stands (keeps app' held (mail_of (slice_set buffers m.0 b) (slice_set copies t.0 (Some (Writes m at 0)))) left meter') places (stepped app c t (StartsWrite m at)).state
    × (did_of (Stepped t BeginWrite) None cost meter'.clock false ≡ (stepped app c t (StartsWrite m at)).did)
unfolding after_move move_line
starts_write app app' held buffers copies places c t m at b cost meter meter' left ea ec em runs s found exists is =
    passed_step app app' held (mail_of (slice_set buffers m.0 b) (slice_set copies t.0 (Some (Writes m at 0)))) places c t BeginWrite (StartsWrite m at) None cost meter meter' left
    ea refl ec refl em runs s.holds s.ports
    (record {
      values = keep_same buffers m.0 b c.plain.values exists is.same s.carries.values;
      begun = begun_more buffers m.0 b exists is.begun ∙ ap (λ ns. slice_set ns m.0 (begun_at ns m.0 + 1)) s.carries.begun;
      copies = ap (λ cs. slice_set cs t.0 (Some (Writes m at 0))) s.carries.copies;
    })
    s.later s.clock s.current s.lines found

pub takes_word : (app app' : App) (held : Held) (buffers : List Buffer) (copies : List (Option Copy)) (places : Places) (c : Counted) (t : TaskId) (m : MsgId) (at done : ℕ) (b : Buffer)
    (word : ℕ) (meter meter' : Meter) (left : List Timed)
    → app' ≡ app → meter' ≡ passed meter None 2 → IsCurrent (number_of meter.selected) meter.current
    → Stood held (mail_of buffers copies) places c meter left → Selects app meter held → m.0 < length buffers → HasPut (buffer_at buffers m.0) b done word
    → Stands (keeps app' held (mail_of (slice_set buffers m.0 b) (slice_set copies t.0 (Some (Writes m at (done + 1))))) left meter') places (stepped app c t (TakesWord m at done)).state
    × (did_of (Stepped t CopyStep) None 2 meter'.clock false ≡ (stepped app c t (TakesWord m at done)).did)
unfolding after_move move_line
takes_word app app' held buffers copies places c t m at done b word meter meter' left ea em runs s found exists is =
    passed_step app app' held (mail_of (slice_set buffers m.0 b) (slice_set copies t.0 (Some (Writes m at (done + 1))))) places c t CopyStep (TakesWord m at done) None 2 meter meter' left
    ea refl refl refl em runs s.holds s.ports
    (record {
      values = keep_same buffers m.0 b c.plain.values exists is.same s.carries.values;
      begun = begun_same buffers m.0 b exists is.begun ∙ s.carries.begun;
      copies = ap (λ cs. slice_set cs t.0 (Some (Writes m at (done + 1)))) s.carries.copies;
    })
    s.later s.clock s.current s.lines found

-- a task that has published holds what the definition says
holds_published : (held : Held) (p : Plain) (promises : List (Option SemId)) (t : TaskId) (m at words : ℕ) → t.0 < length held.threads → Holds held p promises
    → Holds (held_answered t.0 0 held) (after_outcome (Publishes m at words) t p) promises
unfolding frees own_after owners_after shared_after gives
holds_published held p promises t m at words h s = record {
  tasks = own_step (Publishes m at words) t.0 p (answered 0) held.threads s.tasks h (λ r. refl) (λ task. refl);
  promised = promises_same (answered 0) t.0 held.threads h ∙ s.promised;
  owners = s.owners;
  shared = s.shared;
}

same_ports : (p : Plain) (t : TaskId) (m at words : ℕ) → p.ports ≡ (after_outcome (Publishes m at words) t p).ports
unfolding gives ports_after
same_ports p t m at words = refl

values_published : (p : Plain) (t : TaskId) (m at words : ℕ)
    → (after_outcome (Publishes m at words) t p).values ≡ slice_set p.values m (values_at p.values m ++ words_at (task_at p.tasks t.0).core.own at words ∷ [])
unfolding gives values_after
values_published p t m at words = refl

put_line_is : (app : App) (m : MsgId) (at done number : ℕ) (t : TaskId) (p : Plain) → number ≡ length (values_at p.values m.0)
    → Some (Put t m number) ≡ move_line app (EndsWrite m at done) t p
unfolding move_line line_by
put_line_is app m at done number t p e = ap (λ n. Some (Put t m n)) e

lines_same : (p : Plain) (line line' : Option Line) → line ≡ line' → with_one (length p.lines) line ≡ length (p.lines ++ option_list line')
lines_same p line line' e = ap (with_one (length p.lines)) e ∙ lines_counted p.lines line'

published_line : (app : App) (m : MsgId) (at done number : ℕ) (t : TaskId) (p : Plain) → Some (Put t m number) ≡ move_line app (EndsWrite m at done) t p
    → Some (Put t m number) ≡ line_by (published app.table m at) t (task_at p.tasks t.0) p
unfolding move_line
published_line app m at done number t p e = e

-- a write ends
pub ends_write : (app app' : App) (held held' : Held) (buffers : List Buffer) (copies : List (Option Copy)) (places : Places) (c : Counted) (t : TaskId) (m : MsgId) (at done : ℕ) (b b' : Buffer)
    (word number : ℕ) (meter meter' : Meter) (left : List Timed)
    → app' ≡ app → held' ≡ held_answered t.0 0 held → meter' ≡ passed meter (Some (Put t m number)) 2 → IsCurrent (number_of meter.selected) meter.current
    → Stood held (mail_of buffers copies) places c meter left → Selects app meter held' → m.0 < length buffers → t.0 < length held.threads
    → HasPut (buffer_at buffers m.0) b done word → b.words ≡ words_of app.table m.0 → IsTaken (core_in held.threads t.0) at (words_of app.table m.0) b
    → HasPublished b b' → number ≡ b'.newest
    → Stands (keeps app' held' (mail_of (slice_set buffers m.0 b') (slice_set copies t.0 None)) left meter') places (stepped app c t (EndsWrite m at done)).state
    × (did_of (Stepped t Publish) (Some (Put t m number)) 2 meter'.clock false ≡ (stepped app c t (EndsWrite m at done)).did)
unfolding after_move
ends_write app app' held held' buffers copies places c t m at done b b' word number meter meter' left ea eh em runs s found exists inside is wide taken out numbered =
    let words = words_of app.table m.0 in
    let p = c.plain in
    let stand = s.carries.values.stand m.0 exists in
    let core_same : core_in held.threads t.0 ≡ (task_at p.tasks t.0).core = ap (λ tasks. (task_at tasks t.0).core) s.holds.tasks in
    let draft : b.draft ≡ words_at (task_at p.tasks t.0).core.own at words =
    drafted (core_in held.threads t.0) at words b wide taken ∙ ap (λ (core : Core). words_at core.own at words) core_same in
    let value : List Value = values_at p.values m.0 ++ words_at (task_at p.tasks t.0).core.own at words ∷ [] in
    let stands : StandsFor b' value =
    subst (λ v. StandsFor b' (values_at p.values m.0 ++ v ∷ [])) draft (out.stands (values_at p.values m.0) (is.same.stands (values_at p.values m.0) stand)) in
    let count : number ≡ length (values_at p.values m.0) = omega (arith, numbered, out.newest, is.same.newest, stand.newest) in
    let line = put_line_is app m at done number t p count in
    passed_step app app' held' (mail_of (slice_set buffers m.0 b') (slice_set copies t.0 None)) places c t Publish (EndsWrite m at done) (Some (Put t m number)) 2 meter meter' left
    ea refl refl line em runs
    (subst (λ h. Holds h (after_outcome (published app.table m at) t p) c.promises) (sym eh) (holds_published held p c.promises t m.0 at words inside s.holds))
    (s.ports ∙ same_ports p t m.0 at words)
    (record {
      values = subst (Keep (slice_set buffers m.0 b')) (sym (values_published p t m.0 at words)) (keep_published buffers m.0 b' p.values value exists stands s.carries.values);
      begun = begun_same buffers m.0 b' exists (out.begun ∙ is.begun) ∙ s.carries.begun;
      copies = ap (λ cs. slice_set cs t.0 None) s.carries.copies;
    })
    s.later s.clock s.current
    (ap (λ n. with_one n (Some (Put t m number))) s.lines
    ∙ lines_same p (Some (Put t m number)) (line_by (published app.table m at) t (task_at p.tasks t.0) p) (published_line app m at done number t p line)
    ∙ ap (λ xs. length xs) (lines_of_step (published app.table m at) t p))
    found

-- ---- a read

pub starts_read : (app app' : App) (held : Held) (buffers : List Buffer) (copies : List (Option Copy)) (places : Places) (c : Counted) (t : TaskId) (m : MsgId) (at noted : ℕ)
    (cost : ℕ) (meter meter' : Meter) (left : List Timed)
    → app' ≡ app → (charges_of app.table).call ≡ cost → meter' ≡ passed meter (Some (Get t m noted)) cost → IsCurrent (number_of meter.selected) meter.current
    → Stood held (mail_of buffers copies) places c meter left → Selects app meter held → m.0 < length buffers → noted ≡ (buffer_at buffers m.0).newest
    → Stands (keeps app' held (mail_of buffers (slice_set copies t.0 (Some (Reads m at noted 0)))) left meter') places (stepped app c t (StartsRead m at)).state
    × (did_of (Stepped t BeginRead) (Some (Get t m noted)) cost meter'.clock false ≡ (stepped app c t (StartsRead m at)).did)
unfolding after_move move_line
starts_read app app' held buffers copies places c t m at noted cost meter meter' left ea ec em runs s found exists is =
    let number : noted ≡ newest c.plain.values m.0 = is ∙ newest_is buffers c.plain.values m.0 exists s.carries.values in
    let line : Some (Get t m noted) ≡ Some (get_line t m c.plain) = ap (λ n. Some (Get t m n)) number in
    passed_step app app' held (mail_of buffers (slice_set copies t.0 (Some (Reads m at noted 0)))) places c t BeginRead (StartsRead m at) (Some (Get t m noted)) cost meter meter' left
    ea refl ec line em runs
    (record { tasks = s.holds.tasks; promised = s.holds.promised; owners = s.holds.owners; shared = s.holds.shared }) s.ports
    (record {
      values = s.carries.values;
      begun = s.carries.begun;
      copies = ap (λ n. slice_set copies t.0 (Some (Reads m at n 0))) number ∙ ap (λ cs. slice_set cs t.0 (Some (Reads m at (newest c.plain.values m.0) 0))) s.carries.copies;
    })
    s.later s.clock s.current
    (ap (λ n. with_one n (Some (Get t m noted))) s.lines ∙ lines_counted c.plain.lines (Some (get_line t m c.plain)))
    found

-- a task with a word put into its own window
word_held : (held : Held) (p : Plain) (promises : List (Option SemId)) (t m at noted done word : ℕ) → t < length held.threads → word ≡ noted_word p.values m noted done
    → Holds held p promises → Holds (held_word_put t at done word held) (with_core_at t (with_word_put p.values m at noted done) p) promises
word_held held p promises t m at noted done word h e s =
    let f : (Task → Task) = λ task. with_core (with_words_from at done (word ∷ []) task.core) task in
    record {
      tasks = own_tasks f t p held.threads s.tasks h
          ∙ ap (λ w. slice_set p.tasks t (with_core (with_words_from at done (w ∷ []) (task_at p.tasks t).core) (task_at p.tasks t))) e;
      promised = promises_same f t held.threads h ∙ s.promised;
      owners = s.owners;
      shared = s.shared;
    }

pub puts_word : (app app' : App) (held held' : Held) (buffers : List Buffer) (copies : List (Option Copy)) (places : Places) (c : Counted) (t : TaskId) (m : MsgId) (at noted done : ℕ)
    (word : ℕ) (meter meter' : Meter) (left : List Timed)
    → app' ≡ app → held' ≡ held_word_put t.0 at done word held → meter' ≡ passed meter None 2 → IsCurrent (number_of meter.selected) meter.current
    → Stood held (mail_of buffers copies) places c meter left → Selects app meter held' → t.0 < length held.threads → word ≡ noted_word c.plain.values m.0 noted done
    → Stands (keeps app' held' (mail_of buffers (slice_set copies t.0 (Some (Reads m at noted (done + 1))))) left meter') places (stepped app c t (PutsWord m at noted done)).state
    × (did_of (Stepped t CopyStep) None 2 meter'.clock false ≡ (stepped app c t (PutsWord m at noted done)).did)
unfolding after_move move_line
puts_word app app' held held' buffers copies places c t m at noted done word meter meter' left ea eh em runs s found inside ew =
    passed_step app app' held' (mail_of buffers (slice_set copies t.0 (Some (Reads m at noted (done + 1))))) places c t CopyStep (PutsWord m at noted done) None 2 meter meter' left
    ea refl refl refl em runs
    (subst (λ h. Holds h (with_core_at t.0 (with_word_put c.plain.values m.0 at noted done) c.plain) c.promises) (sym eh)
    (word_held held c.plain c.promises t.0 m.0 at noted done word inside ew s.holds))
    s.ports
    (record { values = s.carries.values; begun = s.carries.begun; copies = ap (λ cs. slice_set cs t.0 (Some (Reads m at noted (done + 1)))) s.carries.copies })
    s.later s.clock s.current s.lines found

-- and with its call ended
read_held : (held : Held) (p : Plain) (promises : List (Option SemId)) (t m at noted done word : ℕ) → t < length held.threads → word ≡ noted_word p.values m noted done
    → Holds held p promises
    → Holds (held_answered t 0 (held_word_put t at done word held)) (with_core_at t (λ core. after_answer 0 (with_word_put p.values m at noted done core)) p) promises
read_held held p promises t m at noted done word h e s =
    let f : (Task → Task) = λ task. with_core (with_words_from at done (word ∷ []) task.core) task in
    let once : Holds (held_word_put t at done word held) (with_core_at t (with_word_put p.values m at noted done) p) promises =
    word_held held p promises t m at noted done word h e s in
    let within : t < length (held_word_put t at done word held).threads = subst (λ n. t < n) (sym (length-set held.threads t _)) h in
    let put : Task = with_core (with_word_put p.values m at noted done (task_at p.tasks t).core) (task_at p.tasks t) in
    let there : t < length p.tasks = subst (λ n. t < n) (sym (length-map held.threads (λ thread. thread.task)) ∙ ap (λ (tasks : List Task). length tasks) s.tasks) h in
    record {
      tasks = own_tasks (answered 0) t (with_core_at t (with_word_put p.values m at noted done) p) (held_word_put t at done word held).threads once.tasks within
          ∙ ap (λ task. slice_set (slice_set p.tasks t put) t (answered 0 task)) (get_or-set_same p.tasks t put no_task there)
          ∙ set-set p.tasks t put (answered 0 put);
      promised = promises_same (answered 0) t (held_word_put t at done word held).threads within ∙ once.promised;
      owners = s.owners;
      shared = s.shared;
    }

pub ends_read : (app app' : App) (held held' : Held) (buffers : List Buffer) (copies : List (Option Copy)) (places : Places) (c : Counted) (t : TaskId) (m : MsgId) (at noted done : ℕ)
    (word : ℕ) (meter meter' : Meter) (left : List Timed)
    → app' ≡ app → held' ≡ held_answered t.0 0 (held_word_put t.0 at done word held) → meter' ≡ passed meter None 2 → IsCurrent (number_of meter.selected) meter.current
    → Stood held (mail_of buffers copies) places c meter left → Selects app meter held' → t.0 < length held.threads → word ≡ noted_word c.plain.values m.0 noted done
    → Stands (keeps app' held' (mail_of buffers (slice_set copies t.0 None)) left meter') places (stepped app c t (EndsRead m at noted done)).state
    × (did_of (Stepped t CopyStep) None 2 meter'.clock false ≡ (stepped app c t (EndsRead m at noted done)).did)
unfolding after_move move_line
ends_read app app' held held' buffers copies places c t m at noted done word meter meter' left ea eh em runs s found inside ew =
    passed_step app app' held' (mail_of buffers (slice_set copies t.0 None)) places c t CopyStep (EndsRead m at noted done) None 2 meter meter' left
    ea refl refl refl em runs
    (subst (λ h. Holds h (with_core_at t.0 (λ core. after_answer 0 (with_word_put c.plain.values m.0 at noted done core)) c.plain) c.promises) (sym eh)
    (read_held held c.plain c.promises t.0 m.0 at noted done word inside ew s.holds))
    s.ports
    (record { values = s.carries.values; begun = s.carries.begun; copies = ap (λ cs. slice_set cs t.0 None) s.carries.copies })
    s.later s.clock s.current s.lines found
