-- What a kernel stands for after a step, by the case of the step.
use Rattle.std.proofs.Common.{◌≡◌, ◌∙◌, ℕ, ◌+◌, List, [], ◌∷◌, ◌++◌, length, map, Bool, Option, None, Some, sym, ap, subst, refl, append-nil, length-append}
use Rattle.em_base.specs.declared.apps.App.{App}
use Rattle.em_base.specs.declared.events.Event.{Event}
use Rattle.em_base.specs.declared.events.Timed.{Timed}
use Rattle.em_base.specs.declared.ids.TaskId.{TaskId}
use Rattle.em_ports.specs.Ports.{Places}
use Rattle.em_base.specs.declared.events.Event.TheVariants.{Release, Unplug}
use Rattle.em_gate.specs.State.{Copy, Counted, Plain}
use Rattle.em_state.specs.Buffers.{Kept as Buffer}
use Rattle.em_gate.specs.Selecting.{counted_selected}
use Rattle.em_kernel.specs.declared.did.Did.{Did}
use Rattle.em_kernel.specs.declared.did.End.TheVariants.{Quiet}
use Rattle.em_kernel.specs.Kept.{Keep, Kept, Stands}
use Rattle.em_base.specs.Selection.{selected}
use Rattle.em_trace.specs.declared.lines.Line.{Line}
use Rattle.em_gate.specs.Effects.{option_list}
use Rattle.em_gate.specs.Events.{after_event, event_line}
use Rattle.em_gate.specs.Selecting.{scene_in}
use Rattle.em_demand.specs.Charges.{charges_of}
use Rattle.em_kernel.specs.declared.did.What.{What}
use Rattle.em_kernel.specs.declared.meter.Meter.{Meter}
use Rattle.em_system.specs.Held.{Held, Holds}
use Rattle.em_system.specs.Held.{promises_of, tasks_of}
use Rattle.em_kernel.specs.Metered.{did_of, metered, with_one, with_switch}
use Rattle.em_system.specs.Standings.{number_of}
use Rattle.em_kernel.specs.Step.{ended, idled, waited, settled, total_cost, is_switch, current_after}

-- nothing is left: the run ends
pub rests : (kept : Kept) (places : Places) (c : Counted) (did : Did) → kept.left ≡ [] → Stands kept places c → did ≡ (ended c Quiet).did
    → Stands kept places (waited c c.left).state × (did ≡ (waited c c.left).did)
rests kept places c did e s d =
    subst (λ left. Stands kept places (waited c left).state × (did ≡ (waited c left).did)) (sym e ∙ s.left) (s, d)

-- an event is left: the clock goes on to it
pub idles : (kept : Kept) (places : Places) (c : Counted) (event : Timed) (rest : List Timed) (did : Did) → kept.left ≡ event ∷ rest → Stands kept places c
    → did ≡ (idled c event.time).did
    → Stands (record kept { clock = event.time }) places (waited c c.left).state × (did ≡ (waited c c.left).did)
idles kept places c event rest did e s d =
    subst (λ left. Stands (record kept { clock = event.time }) places (waited c left).state × (did ≡ (waited c left).did)) (sym e ∙ s.left) (
      record {
        tasks = s.tasks;
        promises = s.promises;
        owners = s.owners;
        shared = s.shared;
        ports = s.ports;
        copies = s.copies;
        begun = s.begun;
        values = s.values;
        left = s.left;
        clock = refl;
        current = s.current;
        lines = s.lines;
        running = s.running;
      },
      d,
    )

-- ---- the selection after a step

-- what the kernel selects is what the definition does
pub selects_same : (app : App) (held : Held) (c : Counted) → Holds held c.plain c.promises
    → selected (scene_in app.table.tasks (tasks_of held.threads) (promises_of held.threads) held.owners) ≡ counted_selected app.table.tasks c
selects_same app held c s =
    ap (λ tasks. selected (scene_in app.table.tasks tasks (promises_of held.threads) held.owners)) s.tasks
    ∙ ap (λ promises. selected (scene_in app.table.tasks c.plain.tasks promises held.owners)) s.promised
    ∙ ap (λ owners. selected (scene_in app.table.tasks c.plain.tasks c.promises owners)) s.owners

-- one line more
pub lines_counted : (lines : List Line) (line : Option Line) → with_one (length lines) line ≡ length (lines ++ option_list line)
lines_counted lines None = ap (λ xs. length xs) (sym (append-nil lines))
lines_counted lines (Some line) = sym (length-append lines (line ∷ []))

-- what a kernel keeps of messages
pub record Mail : Type 0 where
  pub buffers : List Buffer
  pub copies : List (Option Copy)

-- the messages and the copies of a state are those
pub record Carries (mail : Mail) (c : Counted) : Type 0 where
  pub values : Keep mail.buffers c.plain.values
  pub begun : map (λ buffer. buffer.begun) mail.buffers ≡ c.begun
  pub copies : mail.copies ≡ c.copies

-- what a kernel keeps of these
abbrev pub keeps : App → Held → Mail → List Timed → Meter → Kept
keeps app held mail left meter = record {
  app = app;
  threads = held.threads;
  owners = held.owners;
  shared = held.shared;
  buffers = mail.buffers;
  copies = mail.copies;
  left = left;
  clock = meter.clock;
  current = meter.current;
  count = meter.count;
  switches = meter.switches;
}

-- what a kernel tells of a step at a cost
abbrev pub tells : App → Meter → Option TaskId → What → Option Line → ℕ → Did
tells app meter task what line cost =
    let switched = is_switch meter.current (number_of task) in
    let total = with_switch switched cost (charges_of app.table).switch in
    record { what = what; line = line; cost = total; clock = meter.clock + total; switched = switched }

-- a step at a cost, once the selection is made again
pub settles : (app : App) (held : Held) (mail : Mail) (places : Places) (c : Counted) (what : What) (line : Option Line) (cost : ℕ) (meter : Meter) (left : List Timed) (task : Option TaskId)
    → Holds held c.plain c.promises → places ≡ c.plain.ports → left ≡ c.left → meter.clock ≡ c.clock → meter.current ≡ c.current
    → with_one meter.count line ≡ length c.plain.lines → Carries mail c
    → number_of task ≡ selected (scene_in app.table.tasks (tasks_of held.threads) (promises_of held.threads) held.owners)
    → Stands (keeps app held mail left (metered meter task line cost (charges_of app.table).switch)) places (settled app c what line cost).state
    × (tells app meter task what line cost ≡ (settled app c what line cost).did)
settles app held mail places c what line cost meter left task s p l clock current lines mailed found =
    let same : number_of task ≡ counted_selected app.table.tasks c = found ∙ selects_same app held c s in
    let sw = (charges_of app.table).switch in
    let switch : is_switch meter.current (number_of task) ≡ is_switch c.current (counted_selected app.table.tasks c) =
    ap (λ t. is_switch meter.current t) same ∙ ap (λ u. is_switch u (counted_selected app.table.tasks c)) current in
    let total : with_switch (is_switch meter.current (number_of task)) cost sw ≡ total_cost app c cost = ap (λ b. with_switch b cost sw) switch in
    let after : meter.clock + with_switch (is_switch meter.current (number_of task)) cost sw ≡ c.clock + total_cost app c cost =
    ap (λ n. n + with_switch (is_switch meter.current (number_of task)) cost sw) clock ∙ ap (λ n. c.clock + n) total in (
      record {
        tasks = s.tasks;
        promises = s.promised;
        owners = s.owners;
        shared = s.shared;
        ports = p;
        copies = mailed.copies;
        begun = mailed.begun;
        values = mailed.values;
        left = l;
        clock = after;
        current = ap (λ t. current_after meter.current t) same ∙ ap (λ u. current_after u (counted_selected app.table.tasks c)) current;
        lines = lines;
        running = λ t e. ap (λ o. current_after c.current o) e;
      },
      ap (λ n. did_of what line n (meter.clock + with_switch (is_switch meter.current (number_of task)) cost sw) (is_switch meter.current (number_of task))) total
          ∙ ap (λ n. did_of what line (total_cost app c cost) n (is_switch meter.current (number_of task))) after
          ∙ ap (λ b. did_of what line (total_cost app c cost) (c.clock + total_cost app c cost) b) switch,
    )

-- the same, where the kernel has these by equal ways
pub settles_by : (app app' : App) (held : Held) (mail : Mail) (places : Places) (c : Counted) (what : What) (line line' : Option Line) (cost cost' sw : ℕ) (meter meter' : Meter)
    (left : List Timed) (task : Option TaskId) (total : ℕ) (switched : Bool)
    → app' ≡ app → line ≡ line' → cost ≡ cost' → sw ≡ (charges_of app.table).switch → meter' ≡ metered meter task line cost sw
    → switched ≡ is_switch meter.current (number_of task) → total ≡ with_switch switched cost sw
    → Holds held c.plain c.promises → places ≡ c.plain.ports → left ≡ c.left → meter.clock ≡ c.clock → meter.current ≡ c.current
    → with_one meter.count line ≡ length c.plain.lines → Carries mail c
    → number_of task ≡ selected (scene_in app.table.tasks (tasks_of held.threads) (promises_of held.threads) held.owners)
    → Stands (keeps app' held mail left meter') places (settled app c what line' cost').state
    × (did_of what line total meter'.clock switched ≡ (settled app c what line' cost').did)
settles_by app app' held mail places c what line line' cost cost' sw meter meter' left task total switched ea el ec es em eb et s p l clock current lines mailed found =
    let m : Meter = metered meter task line cost sw in
    let same_switch : with_switch (is_switch meter.current (number_of task)) cost sw ≡ with_switch (is_switch meter.current (number_of task)) cost (charges_of app.table).switch =
    ap (λ w. with_switch (is_switch meter.current (number_of task)) cost w) es in
    let did = settles app held mail places c what line cost meter left task s p l clock current lines mailed found in
    let stands = subst (λ w. Stands (keeps app held mail left (metered meter task line cost w)) places (settled app c what line cost).state) (sym es) did.0 in
    let kept = subst (λ n. Stands (keeps app held mail left n) places (settled app c what line cost).state) (sym em) stands in
    let here = subst (λ a. Stands (keeps a held mail left meter') places (settled app c what line cost).state) (sym ea) kept in
    let tell : did_of what line total meter'.clock switched ≡ (settled app c what line cost).did =
    ap (λ b. did_of what line total meter'.clock b) eb
    ∙ ap (λ n. did_of what line n meter'.clock (is_switch meter.current (number_of task))) (et ∙ ap (λ b. with_switch b cost sw) eb ∙ same_switch)
    ∙ ap (λ n. did_of what line (with_switch (is_switch meter.current (number_of task)) cost (charges_of app.table).switch) n (is_switch meter.current (number_of task)))
    (ap (λ n. n.clock) em ∙ ap (λ n. meter.clock + n) same_switch)
    ∙ did.1 in
    let by_line = subst (λ o. Stands (keeps app' held mail left meter') places (settled app c what o cost).state × (did_of what line total meter'.clock switched ≡ (settled app c what o cost).did))
    el (here, tell) in
    subst (λ n. Stands (keeps app' held mail left meter') places (settled app c what line' n).state × (did_of what line total meter'.clock switched ≡ (settled app c what line' n).did)) ec by_line

-- an event publishes no value
pub values_of_event : (event : Event) (p : Plain) → p.values ≡ (after_event event p).values
values_of_event (Release t time word) p = refl
values_of_event (Unplug port) p = refl

-- its line is counted
pub lines_of_event : (event : Event) (p : Plain) → p.lines ++ option_list (event_line event p) ≡ (after_event event p).lines
lines_of_event event p = refl
