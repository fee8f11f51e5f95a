-- What a kernel keeps before anything has happened.
use Rattle.std.proofs.Common.{◌≡◌, ◌≢◌, ◌∙◌, ◌⊎◌, inl, inr, ℕ, zero, suc, ◌+◌, ◌<◌, ◌≤◌, ◌++◌, List, [], ◌∷◌, length, map, replicate, slice_get, slice_index_or, All, Option, None, Some, sym, ap, subst, refl, arith}
use Rattle.std.proofs.lemmas.List.{ext_get_or, get_or-map, get_or-replicate, get_or_append_left, length-append, length-map, length-replicate}
use Rattle.std.proofs.lemmas.Bool.{cases_eq}
use Rattle.std.proofs.Math.Seq.{get_or-append_seam}
use Rattle.em_base.specs.Apps.{IsApp}
use Rattle.em_base.specs.Tables.{IsFrom}
use Rattle.em_base.specs.declared.apps.App.{App}
use Rattle.em_base.specs.declared.events.Timed.{Timed}
use Rattle.em_base.specs.declared.jobs.Charges.{Charges}
use Rattle.em_base.specs.declared.ids.SemId.{SemId}
use Rattle.em_base.specs.declared.tables.MsgRow.{MsgRow}
use Rattle.em_base.specs.declared.tables.Table.{Table}
use Rattle.em_demand.specs.Charges.{charges_of}
use Rattle.em_gate.specs.Calls.{row_words}
use Rattle.em_gate.specs.Boot.{boot, first_task}
use Rattle.em_gate.specs.Events.{events_of}
use Rattle.em_gate.specs.State.{Copy, Counted, Task}
use Rattle.em_state.specs.Buffers.{Kept as Buffer, StandsFor}
use Rattle.em_ports.specs.Ports.{Places}
use Rattle.em_system.specs.Held.{Held, Holds, selected_of, tasks_of}
use Rattle.em_system.specs.Possible.{IsPossible}
use Rattle.em_system.specs.Sound.{IsSound}
use Rattle.em_kernel.specs.declared.meter.Meter.{Meter}
use Rattle.em_kernel.specs.Buffers.{AreBuffers, IsFirst, IsKept, IsMade}
use Rattle.em_kernel.specs.Copyings.{copies_of}
use Rattle.em_kernel.specs.Kept.{Keep, Stands, buffer_at, no_buffer}
use Rattle.em_kernel.specs.Moves.{copy_at}
use Rattle.em_kernel.specs.Kernels.{AreCheap, IsKernel}
use Rattle.em_kernel.specs.Metered.{metered_boot}
use Rattle.em_kernel.specs.Run.{counted_boot}
use Rattle.em_kernel.proofs.Carrying.{begun_here}
use Rattle.em_kernel.proofs.Steps.{keeps, selects_same}

no_task_is_some : (t : ℕ) → None ≡ Some t → ⊥
no_task_is_some t e = cc

-- charges within their bounds are small numbers
pub cheap_within : (charges : Charges) → IsFrom 21 52 charges.call → IsFrom 31 62 charges.release → IsFrom 10 46 charges.switch → AreCheap charges
cheap_within charges call release switch = record {
  call = call.1;
  release = release.1;
  switch = switch.1;
  costly = switch.0;
  charged = omega (arith, call.0);
}

first_kernel : (app : App) (held : Held) (charges : Charges) (events : List Timed) → held.app ≡ app → All (IsSound 0) (tasks_of held.threads) → selected_of held ≡ None
    → IsApp app → charges ≡ charges_of app.table → AreCheap charges → length events ≤ 300000
    → All (λ event. event.time < app.table.horizon) events → All (λ event. IsPossible (length app.table.tasks) event.event) events
    → IsKernel held charges events 0 metered_boot
first_kernel app held charges events same sound idle whole charged cheap few timely possible = record {
  charged = charged ∙ ap (λ a. charges_of a.table) (sym same);
  cheap = cheap;
  horizon = subst (λ (a : App). a.table.horizon ≤ 20000000) (sym same) whole.table.horizon.1;
  within = omega arith;
  few = few;
  timely = subst (λ (a : App). All (λ event. event.time < a.table.horizon) events) (sym same) timely;
  possible = subst (λ (a : App). All (λ event. IsPossible (length a.table.tasks) event.event) events) (sym same) possible;
  selects = sym idle;
  runs = λ t e. absurd (no_task_is_some t e);
  sound = sound;
  early = omega arith;
  short = omega arith;
  switched = omega arith;
}

-- what is always so of a kernel is so before anything has happened
pub boot_kernel : (app : App) (held : Held) (charges : Charges) (events : List Timed) (meter : Meter) → held.app ≡ app → All (IsSound 0) (tasks_of held.threads)
    → selected_of held ≡ None → meter ≡ metered_boot
    → IsApp app → charges ≡ charges_of app.table → AreCheap charges → length events ≤ 300000
    → All (λ event. event.time < app.table.horizon) events → All (λ event. IsPossible (length app.table.tasks) event.event) events
    → IsKernel held charges events 0 meter
boot_kernel app held charges events meter same sound idle meter_is whole charged cheap few timely possible =
    subst (λ m. IsKernel held charges events 0 m) (sym meter_is) (first_kernel app held charges events same sound idle whole charged cheap few timely possible)

-- ---- buffers and copies

-- each message has its first buffer
abbrev pub AreFirst : App → List Buffer → Type 0
AreFirst app buffers = (length buffers ≡ length app.table.messages) × ((m : ℕ) → m < length app.table.messages → IsFirst app.table m (buffer_at buffers m))

no_copies : (n t : ℕ) → copy_at (replicate n None) t ≡ None
no_copies zero t = refl
no_copies (suc n) zero = refl
no_copies (suc n) (suc t) = no_copies n t

-- where no task has a copy, a state has none
pub no_copies_of : (n : ℕ) → copies_of (replicate n None) ≡ replicate n None
no_copies_of zero = refl
no_copies_of (suc n) = ap (λ cs. None ∷ cs) (no_copies_of n)

-- what is always so of buffers and copies is so of the first ones
pub first_are : (app : App) (held : Held) (buffers : List Buffer) (copies : List (Option Copy)) → held.app ≡ app → length held.threads ≡ length app.table.tasks
    → AreFirst app buffers → copies ≡ replicate (length app.table.tasks) None → AreBuffers held buffers copies 0
first_are app held buffers copies same many first none = record {
  tasks = ap length none ∙ length-replicate (length app.table.tasks) None ∙ sym many;
  messages = first.0 ∙ ap (λ (a : App). length a.table.messages) (sym same);
  made = λ m l.
      let is = first.1 m (subst (λ n. m < n) first.0 l) in
      subst (λ (a : App). IsMade a.table m (buffer_at buffers m) 0) (sym same) (record { some = is.some; few = is.few; words = is.words; depth = is.depth; early = omega (arith, is.newest) });
  kept = λ t. subst (IsKept held buffers t) (sym (ap (λ cs. copy_at cs t) none ∙ no_copies (length app.table.tasks) t)) tt;
  rests = λ m l. let is = first.1 m (subst (λ n. m < n) first.0 l) in inl (is.begun ∙ sym is.newest);
}

-- the words of a message by its row
words_here : (rows : List MsgRow) (m : ℕ) (other : MsgRow) → m < length rows → row_words (slice_get rows m) ≡ (slice_index_or rows m other).words
words_here [] m other h = absurd (omega (arith, h))
words_here (row ∷ rows) zero other h = refl
words_here (row ∷ rows) (suc m) other h = words_here rows m other (omega (arith, h))

no_row : MsgRow
no_row = record { words = 0; writer = record { 0 = 0 }; readers = [] }

-- the first buffers stand for the first values
first_keep : (app : App) (buffers : List Buffer) → AreFirst app buffers → Keep buffers (map (λ message. replicate message.words 0 ∷ []) app.table.messages)
first_keep app buffers first = record {
  count = length-map app.table.messages (λ message. replicate message.words 0 ∷ []) ∙ sym first.0;
  stand = λ m l.
      let within = subst (λ n. m < n) first.0 l in
      subst (StandsFor (buffer_at buffers m))
      (ap (λ n. replicate n 0 ∷ []) (words_here app.table.messages m no_row within)
      ∙ sym (get_or-map (λ (message : MsgRow). replicate message.words 0 ∷ []) app.table.messages m no_row [] within))
      (first.1 m within).stands;
}

first_begun : (app : App) (buffers : List Buffer) → AreFirst app buffers → map (λ buffer. buffer.begun) buffers ≡ replicate (length app.table.messages) 0
first_begun app buffers first =
    ext_get_or 0 (map (λ buffer. buffer.begun) buffers) (replicate (length app.table.messages) 0)
    (length-map buffers (λ buffer. buffer.begun) ∙ first.0 ∙ sym (length-replicate (length app.table.messages) 0))
    (λ m l.
    let inside = subst (λ n. m < n) (length-map buffers (λ buffer. buffer.begun)) l in
    begun_here buffers m inside ∙ (first.1 m (subst (λ n. m < n) first.0 inside)).begun ∙ sym (get_or-replicate (length app.table.messages) m 0 0 (subst (λ n. m < n) first.0 inside)))

-- ---- the kernel

first_stands : (app : App) (held : Held) (buffers : List Buffer) (copies : List (Option Copy)) (places : Places) → held.app ≡ app
    → Holds held (boot app places) (replicate (length app.table.tasks) None)
    → selected_of held ≡ None → AreFirst app buffers → copies ≡ replicate (length app.table.tasks) None
    → Stands (keeps held.app held (record { buffers = buffers; copies = copies }) (events_of app) metered_boot) places (counted_boot app places)
first_stands app held buffers copies places same holds idle first none =
    let c : Counted = counted_boot app places in
    record {
      tasks = holds.tasks;
      promises = holds.promised;
      owners = holds.owners;
      shared = holds.shared;
      ports = refl;
      copies = none;
      begun = first_begun app buffers first;
      values = first_keep app buffers first;
      left = refl;
      clock = refl;
      current = refl;
      lines = refl;
      running = λ t e. absurd (no_task_is_some t (sym idle ∙ selects_same held.app held c holds ∙ e));
    }

-- what a kernel keeps before anything has happened stands for the counted machine's boot
pub boot_stands : (app : App) (held : Held) (buffers : List Buffer) (copies : List (Option Copy)) (left : List Timed) (meter : Meter) (places : Places) → held.app ≡ app
    → Holds held (boot app places) (replicate (length app.table.tasks) None) → selected_of held ≡ None
    → left ≡ events_of app → meter ≡ metered_boot → AreFirst app buffers → copies ≡ replicate (length app.table.tasks) None
    → Stands (keeps held.app held (record { buffers = buffers; copies = copies }) left meter) places (counted_boot app places)
boot_stands app held buffers copies left meter places same holds idle left_is meter_is first none =
    subst (λ l. Stands (keeps held.app held (record { buffers = buffers; copies = copies }) l meter) places (counted_boot app places)) (sym left_is)
    (subst (λ m. Stands (keeps held.app held (record { buffers = buffers; copies = copies }) (events_of app) m) places (counted_boot app places)) (sym meter_is)
    (first_stands app held buffers copies places same holds idle first none))

-- one buffer more
pub first_more : (table : Table) (m : ℕ) (buffers buffers' : List Buffer) (b : Buffer) → buffers' ≡ buffers ++ b ∷ [] → length buffers ≡ m
    → ((n : ℕ) → n < m → IsFirst table n (buffer_at buffers n)) → IsFirst table m b
    → (length buffers' ≡ m + 1) × ((n : ℕ) → n < m + 1 → IsFirst table n (buffer_at buffers' n))
first_more table m buffers buffers' b e count first last = (
  ap length e ∙ length-append buffers (b ∷ []) ∙ ap (λ n. n + 1) count,
  λ n l. subst (λ bs. IsFirst table n (buffer_at bs n)) (sym e) (at n l (cases_eq n m)),
)
  where
    at : (n : ℕ) → n < m + 1 → (n ≡ m) ⊎ (n ≢ m) → IsFirst table n (buffer_at (buffers ++ b ∷ []) n)
    at n l (inl is) =
        let end : n ≡ length buffers = is ∙ sym count in
        subst (IsFirst table n) (sym (ap (λ i. buffer_at (buffers ++ b ∷ []) i) end ∙ get_or-append_seam buffers b [] no_buffer)) (subst (λ i. IsFirst table i b) (sym is) last)
    at n l (inr other) =
        subst (IsFirst table n) (sym (get_or_append_left buffers (b ∷ []) no_buffer n (inside n l other))) (first n (below n l other))
      where
        below : (n : ℕ) → n < m + 1 → n ≢ m → n < m
        below n l other = grind (arith, l, other)

        inside : (n : ℕ) → n < m + 1 → n ≢ m → n < length buffers
        inside n l other = subst (λ k. n < k) (sym count) (below n l other)

-- there are as many threads as tasks
pub threads_first : (app : App) (held : Held) (places : Places) (promises : List (Option SemId)) → Holds held (boot app places) promises
    → length held.threads ≡ length app.table.tasks
threads_first app held places promises h =
    sym (length-map held.threads (λ thread. thread.task)) ∙ ap (λ (tasks : List Task). length tasks) h.tasks
    ∙ length-map app.table.tasks (first_task app.table.own app.image.labels)
