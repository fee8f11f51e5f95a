-- How many releases timers cause, that they are below the horizon, and that they name tasks; and the same of a script.
use Rattle.std.proofs.Common.{◌≡◌, ℕ, ◌+◌, ◌-◌, ◌*◌, ◌^◌, ◌<◌, ◌≤◌, nat_lt, true, List, [], ◌∷◌, ◌++◌, length, map, get_or, take, Option, None, Some, sym, ap, subst, ◌∙◌, append_assoc, ⊎_elim, arith, length-append, take_all, zero-add}
use Rattle.std.specs.Int.{div_ceil}
use Rattle.std.specs.List.{All, enumerate_from, filter, flat_map, range_with_len, sum_by}
use Rattle.std.proofs.Math.Nat.{mul-le-mul_right}
use Rattle.std.proofs.lemmas.Bool.{cases_lt, ltb-true}
use Rattle.std.proofs.lemmas.Grind.{div_ceil_times}
use Rattle.std.proofs.lemmas.List.{flat_map_more, length-map, map-append, take_more}
use Rattle.std.proofs.lemmas.List.Elements.{All-append, All-filter, All-head, All-map, All-nil, All-tail, All-weaker, filter_passes}
use Rattle.std.proofs.lemmas.List.FromFn.{get_or-enumerate_from, get_or-range_with_len, length-enumerate_from, length-range_with_len, map-range_with_len_more}
use Rattle.std.proofs.lemmas.List.Sums.{count_by-le-length, length-filter, sum_by-cons}
use Rattle.em_base.specs.declared.events.Event.{Event}
use Rattle.em_base.specs.declared.events.Event.TheVariants.{Release, Unplug}
use Rattle.em_base.specs.declared.events.Timed.{Timed}
use Rattle.em_base.specs.declared.tables.Kind.{Kind}
use Rattle.em_base.specs.declared.tables.Kind.TheVariants.{Timer, Line, Background}
use Rattle.em_base.specs.declared.tables.Table.{Table}
use Rattle.em_base.specs.declared.tables.TaskRow.{TaskRow}
use Rattle.em_base.specs.Events.{IsEventAt, IsScript}
use Rattle.em_base.specs.Tables.{IsGiven, IsTable, IsTask, SuitsKind, longest, releases_of}
use Rattle.em_base.specs.Keys.{numbered}
use Rattle.em_gate.specs.Events.{releases_by, timer_release, timer_releases, timer_times}
use Rattle.em_system.specs.Possible.{IsPossible}

-- ---- rounded up divisions

-- a multiple whose number is below the quotient rounded up is below the dividend
pub multiple-below : (k n d : ℕ) → 0 < d → k < div_ceil n d → k * d < n
multiple-below k n d some less =
    let times = div_ceil_times n d some in
    let product : (k + 1) * d ≤ div_ceil n d * d = mul-le-mul_right d (omega arith) in
    omega (arith, times.1, product)

div_ceil-le : (m n d : ℕ) → 0 < d → n ≤ m → div_ceil n d ≤ div_ceil m d
div_ceil-le m n d some le = ⊎_elim
    (λ less. let product = multiple-below (div_ceil m d) n d some less in absurd (omega (arith, product, (div_ceil_times m d some).0)))
    (λ ok. ok)
    (cases_lt (div_ceil m d) (div_ceil n d))

-- ---- one more release

-- one more release of a timer at the end
pub releases-next : (t phase period k time : ℕ) (old now new : List Timed) (event : Timed)
    → now ≡ old ++ map (timer_release t) (map (λ k. phase + k * period) (range_with_len 0 k)) → event ≡ timer_release t time → time ≡ phase + k * period
    → new ≡ now ++ event ∷ [] → new ≡ old ++ map (timer_release t) (map (λ k. phase + k * period) (range_with_len 0 (k + 1)))
releases-next t phase period k time old now new event before is timed pushed =
    let at : ℕ → ℕ = λ k. phase + k * period in
    let so-far = map (timer_release t) (map at (range_with_len 0 k)) in
    let more = ap (map (timer_release t)) (map-range_with_len_more at 0 k k (omega arith)) ∙ map-append (timer_release t) (map at (range_with_len 0 k)) (at k ∷ []) in
    let same = is ∙ ap (timer_release t) timed in
    pushed ∙ ap (λ l. l ++ event ∷ []) before ∙ append_assoc old so-far (event ∷ []) ∙ ap (λ e. old ++ (so-far ++ e ∷ [])) same ∙ ap (λ l. old ++ l) (sym more)

-- the releases of one more task at the end
pub tasks-next : (horizon place : ℕ) (rows items : List TaskRow) (row : TaskRow) (old now new : List Timed) → items ≡ rows
    → row ≡ get_or items place row → place < length items
    → now ≡ old ++ flat_map (λ task. releases_by task.1.kind horizon task) (take place (numbered rows))
    → new ≡ now ++ releases_by row.kind horizon (place, row)
    → new ≡ old ++ flat_map (λ task. releases_by task.1.kind horizon task) (take (place + 1) (numbered rows))
tasks-next horizon place rows items row old now new same here less before pushed =
    let f : ℕ × TaskRow → List Timed = λ task. releases_by task.1.kind horizon task in
    let inside : place < length rows = omega (arith, less, ap length same) in
    let inside' : place < length (numbered rows) = omega (arith, inside, length-enumerate_from 0 rows) in
    let at : row ≡ get_or rows place row = here ∙ ap (λ l. get_or l place row) same in
    let one : get_or (numbered rows) place (place, row) ≡ (place, row) =
    get_or-enumerate_from 0 rows place (place, row) inside ∙ (λ i. ((zero-add place) i, (sym at) i)) in
    let more : take (place + 1) (numbered rows) ≡ take place (numbered rows) ++ (place, row) ∷ [] =
    take_more (numbered rows) place (place, row) inside' ∙ ap (λ x. take place (numbered rows) ++ x ∷ []) one in
    pushed ∙ ap (λ l. l ++ f (place, row)) before ∙ flat_map_more f old (take place (numbered rows)) (place, row) ∙ ap (λ l. old ++ flat_map f l) (sym more)

-- those of all tasks
pub tasks-all : (table : Table) (items : List TaskRow) (place : ℕ) → items ≡ table.tasks → length items ≤ place
    → flat_map (λ task. releases_by task.1.kind table.horizon task) (take place (numbered table.tasks)) ≡ timer_releases table
tasks-all table items place same le =
    ap (flat_map (λ task. releases_by task.1.kind table.horizon task))
    (take_all place (numbered table.tasks) (omega (arith, le, ap length same, length-enumerate_from 0 table.tasks)))

-- ---- the releases of a task

times-few : (horizon phase : ℕ) (period : Option ℕ) → IsGiven 1 longest period
    → length (timer_times horizon phase period) ≤ elim period as (λ _. ℕ) [ None ↦ 0 | Some period ↦ div_ceil horizon period ]
times-few horizon phase None h = absurd h
times-few horizon phase (Some period) h =
    let count = div_ceil (horizon - phase) period in
    let long = length-map (range_with_len 0 count) (λ k. phase + k * period) ∙ length-range_with_len 0 count in
    omega (arith, long, div_ceil-le horizon (horizon - phase) period (omega (arith, h.0)) (omega arith))

releases-few : (kind : Kind) (horizon n : ℕ) (row : TaskRow) → SuitsKind kind row → length (releases_by kind horizon (n, row)) ≤ releases_of horizon row
releases-few Timer horizon n row h =
    let long = length-map (timer_times horizon row.phase row.period) (timer_release n) in
    omega (arith, long, times-few horizon row.phase row.period h.0.period)
releases-few Line horizon n row h = omega arith
releases-few Background horizon n row h = omega arith

times-early : (horizon phase : ℕ) (period : Option ℕ) → IsGiven 1 longest period → All (λ time. time < horizon) (timer_times horizon phase period)
times-early horizon phase None h = absurd h
times-early horizon phase (Some period) h =
    let count = div_ceil (horizon - phase) period in
    All-map (λ time. time < horizon) (λ k. phase + k * period) (range_with_len 0 count) (λ i d less.
    let inside : i < count = omega (arith, less, length-range_with_len 0 count) in
    let at = get_or-range_with_len 0 count i d inside in
    let below = multiple-below i (horizon - phase) period (omega (arith, h.0)) inside in
    subst (λ k. phase + k * period < horizon) (sym at) (omega (arith, below)))

releases-early : (kind : Kind) (horizon n : ℕ) (row : TaskRow) → SuitsKind kind row → All (λ event. event.time < horizon) (releases_by kind horizon (n, row))
releases-early Timer horizon n row h = All-map (λ event. event.time < horizon) (timer_release n) (timer_times horizon row.phase row.period) (times-early horizon row.phase row.period h.0.period)
releases-early Line horizon n row h = All-nil (λ event. event.time < horizon)
releases-early Background horizon n row h = All-nil (λ event. event.time < horizon)

releases-possible : (kind : Kind) (horizon tasks n : ℕ) (row : TaskRow) → n < tasks → horizon < 2 ^ 63 → SuitsKind kind row
    → All (λ event. IsPossible tasks event.event) (releases_by kind horizon (n, row))
releases-possible Timer horizon tasks n row h low suited =
    let times = timer_times horizon row.phase row.period in
    All-map (λ event. IsPossible tasks event.event) (timer_release n) times
    (All-weaker (λ time. time < horizon) (λ time. IsPossible tasks (timer_release n time).event) (λ time less. (h, omega (arith, less, low))) times
    (times-early horizon row.phase row.period suited.0.period))
releases-possible Line horizon tasks n row h low suited = All-nil (λ event. IsPossible tasks event.event)
releases-possible Background horizon tasks n row h low suited = All-nil (λ event. IsPossible tasks event.event)

-- ---- the releases of all tasks

abbrev by_timers : ℕ → ℕ → List TaskRow → List Timed
by_timers horizon n rows = flat_map (λ task. releases_by task.1.kind horizon task) (enumerate_from n rows)

-- no more than their periods cause
pub rows-few : (horizon semaphores n : ℕ) (rows : List TaskRow) → All (IsTask semaphores) rows → length (by_timers horizon n rows) ≤ sum_by (releases_of horizon) rows
rows-few horizon semaphores n [] h = omega arith
rows-few horizon semaphores n (row ∷ rows) h =
    let suited = (All-head (IsTask semaphores) row rows h).suited in
    let rest = rows-few horizon semaphores (n + 1) rows (All-tail (IsTask semaphores) row rows h) in
    omega (
      arith,
      length-append (releases_by row.kind horizon (n, row)) (by_timers horizon (n + 1) rows),
      releases-few row.kind horizon n row suited,
      rest,
      sum_by-cons (releases_of horizon) row rows,
    )

rows-early : (horizon semaphores n : ℕ) (rows : List TaskRow) → All (IsTask semaphores) rows → All (λ event. event.time < horizon) (by_timers horizon n rows)
rows-early horizon semaphores n [] h = All-nil (λ event. event.time < horizon)
rows-early horizon semaphores n (row ∷ rows) h =
    let suited = (All-head (IsTask semaphores) row rows h).suited in
    let rest = rows-early horizon semaphores (n + 1) rows (All-tail (IsTask semaphores) row rows h) in
    All-append (λ event. event.time < horizon) (releases_by row.kind horizon (n, row)) (by_timers horizon (n + 1) rows) (releases-early row.kind horizon n row suited) rest

rows-possible : (horizon tasks semaphores n : ℕ) (rows : List TaskRow) → n + length rows ≤ tasks → horizon < 2 ^ 63 → All (IsTask semaphores) rows
    → All (λ event. IsPossible tasks event.event) (by_timers horizon n rows)
rows-possible horizon tasks semaphores n [] h low suited = All-nil (λ event. IsPossible tasks event.event)
rows-possible horizon tasks semaphores n (row ∷ rows) h low suited =
    All-append (λ event. IsPossible tasks event.event) (releases_by row.kind horizon (n, row)) (by_timers horizon (n + 1) rows)
    (releases-possible row.kind horizon tasks n row (omega arith) low (All-head (IsTask semaphores) row rows suited).suited)
    (rows-possible horizon tasks semaphores (n + 1) rows (omega arith) low (All-tail (IsTask semaphores) row rows suited))

-- ---- the releases with the events of a script below the horizon

event-possible : (rows : List TaskRow) (time : ℕ) (event : Event) → time < 2 ^ 63 → IsEventAt rows time event → IsPossible (length rows) event
event-possible rows time (Release task arrival word) low h = (h.0.1, omega (arith, low, h.1))
event-possible rows time (Unplug port) low h = h

-- those that are delivered
abbrev pub delivered : Table → List Timed → List Timed
delivered table script = timer_releases table ++ filter (λ event. nat_lt event.time table.horizon) script

-- they are what is collected
pub delivered-is : (table : Table) (script rows made timers all : List Timed) → made ≡ [] → timers ≡ made ++ timer_releases table → rows ≡ script
    → all ≡ timers ++ filter (λ event. nat_lt event.time table.horizon) rows → all ≡ delivered table script
delivered-is table script rows made timers all none timed same scripted =
    scripted ∙ (λ i. (timed ∙ ap (λ l. l ++ timer_releases table) none) i ++ filter (λ event. nat_lt event.time table.horizon) (same i))

pub delivered-few : (table : Table) (script : List Timed) → IsTable table → IsScript table.tasks script → length (delivered table script) ≤ 300000
delivered-few table script t s =
    let below : Timed → _ = λ event. nat_lt event.time table.horizon in
    omega (
      arith,
      length-append (timer_releases table) (filter below script),
      rows-few table.horizon table.semaphores 0 table.tasks t.tasks,
      t.releases,
      s.few,
      length-filter below script,
      count_by-le-length below script,
    )

pub delivered-early : (table : Table) (script : List Timed) → IsTable table → All (λ event. event.time < table.horizon) (delivered table script)
delivered-early table script t =
    All-append (λ event. event.time < table.horizon) (timer_releases table) (filter (λ event. nat_lt event.time table.horizon) script)
    (rows-early table.horizon table.semaphores 0 table.tasks t.tasks)
    (All-weaker (λ event. nat_lt event.time table.horizon ≡ true) (λ event. event.time < table.horizon) (λ event e. ltb-true event.time table.horizon e)
    (filter (λ event. nat_lt event.time table.horizon) script) (filter_passes (λ event. nat_lt event.time table.horizon) script))

-- each of them can be taken
pub delivered-possible : (table : Table) (script : List Timed) → IsTable table → IsScript table.tasks script
    → All (λ event. IsPossible (length table.tasks) event.event) (delivered table script)
delivered-possible table script t s =
    let P : Timed → Type 0 = λ event. IsPossible (length table.tasks) event.event in
    let below : Timed → _ = λ event. nat_lt event.time table.horizon in
    let low : table.horizon < 2 ^ 63 = omega (arith, t.horizon.1) in
    All-append P (timer_releases table) (filter below script)
    (rows-possible table.horizon (length table.tasks) table.semaphores 0 table.tasks (omega arith) low t.tasks)
    (λ i d less.
    let early = ltb-true (get_or (filter below script) i d).time table.horizon (filter_passes below script i d less) in
    let at = All-filter below (λ event. IsEventAt table.tasks event.time event.event) script s.possible i d less in
    event-possible table.tasks (get_or (filter below script) i d).time (get_or (filter below script) i d).event (omega (arith, early, low)) at)
