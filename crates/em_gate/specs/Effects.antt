-- What a step of a task changes, field by field, by what it comes to. This project's own.
use Rattle.std.specs.Prelude.{ℕ, ◌+◌, ◌-◌, ◌*◌, Bool, false, ◌==◌, List, [], ◌∷◌, ◌++◌, length, map, filter, flat_map, slice_get, slice_set, Option, None, Some, if◌then◌else◌}
use Rattle.std.specs.Int.{w32, cast_unsigned}
use Rattle.std.specs.List.{range_with_len, splice}
use Rattle.std.specs.Option.{unwrap_or}
use Rattle.em_base.specs.declared.ids.SemId.{SemId}
use Rattle.em_base.specs.declared.ids.TaskId.{TaskId}
use Rattle.em_base.specs.declared.jobs.Job.{Job}
use Rattle.em_base.specs.declared.jobs.Status.{Status}
use Rattle.em_base.specs.declared.jobs.Status.TheVariants.{Asleep, Awake, Waits, Stopped}
use Rattle.em_base.specs.declared.tables.Table.{Table}
use Rattle.em_base.specs.Selection.{owner_at, is_task}
use Rattle.em_hart.specs.Hart.{Memory, with_register, bytes_of, number_in_bytes}
use Rattle.em_hart.specs.Instruction.{next_registers}
use Rattle.em_ports.specs.Ports.{Places, port_at, value_of, after_put}
use Rattle.em_trace.specs.declared.lines.Line.{Line}
use Rattle.em_trace.specs.declared.lines.Line.TheVariants.{JobEnd, Acq, Free, Out, Sig, Put, Get, Refused, Faulted, Exited}
use Rattle.em_gate.specs.State.{Core, Task, Value, Plain, task_at, arrivals_at, values_at, value_at}
use Rattle.em_gate.specs.Tasks.{is_full, after_take, after_finish, after_stop, after_leave, after_wait, after_awake}
use Rattle.em_gate.specs.Calls.{call_number}
use Rattle.em_gate.specs.Outcome.{Outcome, Works, Falls, Refuses, Ends, Gets, Blocks, Frees, Puts, Publishes, Fetches, Signals, Leaves, outcome}

-- ---- the own task

-- the core with an answer in a0, at the instruction after the call
abbrev pub after_answer : ℕ → Core → Core
after_answer answer core = record core { registers = next_registers (with_register core.registers 10 answer) }

-- the core at the instruction after the call
abbrev pub after_call : Core → Core
after_call core = record core { registers = next_registers core.registers }

abbrev pub with_core : Core → Task → Task
with_core core task = record task { core = core }

-- so many words that stand in a window from an address on
abbrev pub words_at : Memory → ℕ → ℕ → Value
words_at own at count = map (λ i. number_in_bytes own.bytes 4 (at - own.base + 4 * i)) (range_with_len 0 count)

-- the bytes with words put in place of those from a place on
abbrev pub with_words : List ℕ → ℕ → Value → List ℕ
with_words bytes place words = splice bytes place (place + 4 * length words) (flat_map (bytes_of 4) words)

-- the core with a value in its own window from an address on
abbrev pub with_value : ℕ → Value → Core → Core
with_value at value core = record core { own = record core.own { bytes = with_words core.own.bytes (at - core.own.base) value } }

-- the number of the newest value of a message, and that value
abbrev pub newest : List (List Value) → ℕ → ℕ
newest values m = length (values_at values m) - 1

abbrev pub newest_value : List (List Value) → ℕ → Value
newest_value values m = value_at values m (newest values m)

-- the task that takes the step: a refused call answers its code modulo 2^32, an accepted one 0; waitjob leaves a0 to the next job's word
unfoldable pub own_after : Outcome → Plain → Task → Task
own_after (Works class core shared) p task = with_core core task
own_after (Falls cause) p task = after_stop task
own_after (Refuses code) p task = with_core (after_answer (cast_unsigned w32 code) task.core) task
own_after Ends p task = after_finish (with_core (after_call task.core) task)
own_after (Gets s) p task = with_core (after_answer 0 task.core) task
own_after (Blocks s) p task = after_wait (record { 0 = s }) task
own_after (Frees s) p task = with_core (after_answer 0 task.core) task
own_after (Puts port word) p task = with_core (after_answer 0 task.core) task
own_after (Publishes m at count) p task = with_core (after_answer 0 task.core) task
own_after (Fetches m at) p task = with_core (after_answer 0 (with_value at (newest_value p.values m) task.core)) task
own_after (Signals u word) p task = with_core (after_answer 0 task.core) task
own_after Leaves p task = after_leave task

-- ---- the others

-- the semaphores that are free after the step of the task t and that it owned before
unfoldable pub frees : Outcome → ℕ → List (Option TaskId) → ℕ → Bool
frees (Frees s) t owners r = r == s
frees (Falls cause) t owners r = is_task t (owner_at owners r)
frees (Works class core shared) t owners r = false
frees (Refuses code) t owners r = false
frees Ends t owners r = false
frees (Gets s) t owners r = false
frees (Blocks s) t owners r = false
frees (Puts port word) t owners r = false
frees (Publishes m at count) t owners r = false
frees (Fetches m at) t owners r = false
frees (Signals u word) t owners r = false
frees Leaves t owners r = false

-- a task after these semaphores were freed: one that waits for any of them tries again
abbrev pub woken_by : (ℕ → Bool) → Task → Status → Task
woken_by free task Asleep = task
woken_by free task Awake = task
woken_by free task (Waits s) = if free s.0 then after_awake task else task
woken_by free task Stopped = task

abbrev pub woken : (ℕ → Bool) → Task → Task
woken free task = woken_by free task task.status

-- the tasks, without what a signal gives
abbrev pub tasks_after : Outcome → ℕ → Plain → List Task
tasks_after o t p = map (woken (frees o t p.owners)) (slice_set p.tasks t (own_after o p (task_at p.tasks t)))

-- the address of the last waitjob
unfoldable pub lasts_after : Outcome → ℕ → Plain → List (Option ℕ)
lasts_after Ends t p = slice_set p.lasts t (Some (task_at p.tasks t).core.registers.pc)
lasts_after (Works class core shared) t p = p.lasts
lasts_after (Falls cause) t p = p.lasts
lasts_after (Refuses code) t p = p.lasts
lasts_after (Gets s) t p = p.lasts
lasts_after (Blocks s) t p = p.lasts
lasts_after (Frees s) t p = p.lasts
lasts_after (Puts port word) t p = p.lasts
lasts_after (Publishes m at count) t p = p.lasts
lasts_after (Fetches m at) t p = p.lasts
lasts_after (Signals u word) t p = p.lasts
lasts_after Leaves t p = p.lasts

-- an owner after the task t has lost what it owned
abbrev pub without : ℕ → Option TaskId → Option TaskId
without t owner = if is_task t owner then None else owner

-- the owners
unfoldable pub owners_after : Outcome → ℕ → List (Option TaskId) → List (Option TaskId)
owners_after (Gets s) t owners = slice_set owners s (Some (record { 0 = t }))
owners_after (Frees s) t owners = slice_set owners s None
owners_after (Falls cause) t owners = map (without t) owners
owners_after (Works class core shared) t owners = owners
owners_after (Refuses code) t owners = owners
owners_after Ends t owners = owners
owners_after (Blocks s) t owners = owners
owners_after (Puts port word) t owners = owners
owners_after (Publishes m at count) t owners = owners
owners_after (Fetches m at) t owners = owners
owners_after (Signals u word) t owners = owners
owners_after Leaves t owners = owners

-- the values of the messages
unfoldable pub values_after : Outcome → Core → List (List Value) → List (List Value)
values_after (Publishes m at count) core values = slice_set values m (values_at values m ++ words_at core.own at count ∷ [])
values_after (Works class core' shared) core values = values
values_after (Falls cause) core values = values
values_after (Refuses code) core values = values
values_after Ends core values = values
values_after (Gets s) core values = values
values_after (Blocks s) core values = values
values_after (Frees s) core values = values
values_after (Puts port word) core values = values
values_after (Fetches m at) core values = values
values_after (Signals u word) core values = values
values_after Leaves core values = values

-- the ports
unfoldable pub ports_after : Outcome → Places → Places
ports_after (Puts port word) ports = after_put ports port word
ports_after (Works class core shared) ports = ports
ports_after (Falls cause) ports = ports
ports_after (Refuses code) ports = ports
ports_after Ends ports = ports
ports_after (Gets s) ports = ports
ports_after (Blocks s) ports = ports
ports_after (Frees s) ports = ports
ports_after (Publishes m at count) ports = ports
ports_after (Fetches m at) ports = ports
ports_after (Signals u word) ports = ports
ports_after Leaves ports = ports

-- the shared window
unfoldable pub shared_after : Outcome → Memory → Memory
shared_after (Works class core shared') shared = shared'
shared_after (Falls cause) shared = shared
shared_after (Refuses code) shared = shared
shared_after Ends shared = shared
shared_after (Gets s) shared = shared
shared_after (Blocks s) shared = shared
shared_after (Frees s) shared = shared
shared_after (Puts port word) shared = shared
shared_after (Publishes m at count) shared = shared
shared_after (Fetches m at) shared = shared
shared_after (Signals u word) shared = shared
shared_after Leaves shared = shared

-- ---- the line

-- the number of a job, 0 where there is none
abbrev pub job_number : Option Job → ℕ
job_number None = 0
job_number (Some job) = job.number

-- the least semaphore that the task t owns
abbrev pub least_owned : List (Option TaskId) → ℕ → Option SemId
least_owned owners t =
    slice_get (map (λ s. record { 0 = s }) (filter (λ s. is_task t (owner_at owners s)) (range_with_len 0 (length owners)))) 0

-- the value that a port shows, 0 where it is unplugged
abbrev pub shown_by : Places → ℕ → ℕ
shown_by ports port = unwrap_or (value_of (port_at ports port)) 0

-- the line that a step of the task t gives, where it gives one
unfoldable pub line_by : Outcome → TaskId → Task → Plain → Option Line
line_by (Works class core shared) t task p = None
line_by (Falls cause) t task p = Some (Faulted t cause task.core.registers.pc (least_owned p.owners t.0))
line_by (Refuses code) t task p = Some (Refused t (call_number task.core.registers) code)
line_by Ends t task p = Some (JobEnd t (job_number task.job))
line_by (Gets s) t task p = Some (Acq t (record { 0 = s }))
line_by (Blocks s) t task p = None
line_by (Frees s) t task p = Some (Free t (record { 0 = s }))
line_by (Puts port word) t task p = Some (Out t (record { 0 = port }) word (shown_by (after_put p.ports port word) port))
line_by (Publishes m at count) t task p = Some (Put t (record { 0 = m }) (length (values_at p.values m)))
line_by (Fetches m at) t task p = Some (Get t (record { 0 = m }) (newest p.values m))
line_by (Signals u word) t task p = Some (Sig t (record { 0 = u }) ((task_at p.tasks u).taken + 1))
line_by Leaves t task p = Some (Exited t)

abbrev pub option_list : Option Line → List Line
option_list None = []
option_list (Some line) = line ∷ []

-- ---- the state

-- the arrivals of a task's jobs after a release at a nominal time
abbrev pub arrivals_after : ℕ → ℕ → Plain → List (List ℕ)
arrivals_after u arrival p =
    if is_full (task_at p.tasks u) then p.arrivals else slice_set p.arrivals u (arrivals_at p.arrivals u ++ arrival ∷ [])

-- the task u is given a job, if it takes one, at a nominal time and with a word; without a line
abbrev pub given : ℕ → ℕ → ℕ → Plain → Plain
given u arrival word p = record p {
  tasks = slice_set p.tasks u (after_take arrival word (task_at p.tasks u));
  arrivals = arrivals_after u arrival p;
}

-- what a step gives to another task: a signal is a release whose nominal time is 0
unfoldable pub gives : Outcome → Plain → Plain
gives (Signals u word) p = given u 0 word p
gives (Works class core shared) p = p
gives (Falls cause) p = p
gives (Refuses code) p = p
gives Ends p = p
gives (Gets s) p = p
gives (Blocks s) p = p
gives (Frees s) p = p
gives (Puts port word) p = p
gives (Publishes m at count) p = p
gives (Fetches m at) p = p
gives Leaves p = p

-- the state after a step of the task t that comes to an outcome
abbrev pub after_outcome : Outcome → TaskId → Plain → Plain
after_outcome o t p = gives o (record {
  tasks = tasks_after o t.0 p;
  lasts = lasts_after o t.0 p;
  arrivals = p.arrivals;
  owners = owners_after o t.0 p.owners;
  values = values_after o (task_at p.tasks t.0).core p.values;
  ports = ports_after o p.ports;
  shared = shared_after o p.shared;
  lines = p.lines ++ option_list (line_by o t (task_at p.tasks t.0) p);
})

-- the state after a step of the task t over the code: the plain machine's step
abbrev pub after_step : Table → List ℕ → TaskId → Plain → Plain
after_step table code t p = after_outcome (outcome table code t.0 p) t p
