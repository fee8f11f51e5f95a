-- What was read part by part beside the table of the whole.
use Rattle.std.proofs.Common.{◌≡◌, ◌∙◌, ℕ, List, map, ap, refl, Bor, String}
use Rattle.std.specs.BTreeMap.{BTreeMap}
use Rattle.std.specs.declared.alloc.Global.{Global}
use Rattle.toml.specs.Data.{Members}
use Rattle.toml.specs.declared.value.Value.{Value}
use Rattle.em_base.specs.declared.tables.MsgRow.{MsgRow}
use Rattle.em_base.specs.declared.tables.Table.{Table}
use Rattle.em_base.specs.declared.tables.TaskRow.{TaskRow}
use Rattle.em_table.specs.declared.messages.Draft.{Draft}
use Rattle.em_table.specs.declared.tops.Top.{Top}
use Rattle.em_table.specs.Faults.{first_of}
use Rattle.em_table.specs.Reading.{IsTopOf, groups_of, message_in}
use Rattle.em_table.specs.Tests.{task_fault, row_of, message_fault, message_of, message_row, across_faults, task_groups, message_groups, rows_of, messages_of}
use Rattle.em_table.specs.Tests.{horizon_of, semaphores_of}

-- the tests of the tasks
pub tasks_tested : (m : Members) (top : Top) (groups : List (Bor (BTreeMap (String Global) Value))) → IsTopOf top m → groups ≡ top.tasks.items
    → first_of (map (task_fault top.semaphores) (groups_of groups)) ≡ first_of (map (task_fault (semaphores_of m)) (task_groups m))
tasks_tested m top groups k e =
    ap (λ s. first_of (map (task_fault s) (groups_of groups))) k.semaphores
    ∙ ap (λ g. first_of (map (task_fault (semaphores_of m)) g)) (ap groups_of e ∙ k.tasks)

-- the tasks
pub rows_read : (m : Members) (top : Top) (groups : List (Bor (BTreeMap (String Global) Value))) → IsTopOf top m → groups ≡ top.tasks.items
    → map row_of (groups_of groups) ≡ rows_of m
rows_read m top groups k e = ap (map row_of) (ap groups_of e ∙ k.tasks)

-- the tests of the messages
pub messages_tested : (m : Members) (top : Top) (groups : List (Bor (BTreeMap (String Global) Value))) → IsTopOf top m → groups ≡ top.messages.items
    → first_of (map message_fault (groups_of groups)) ≡ first_of (map message_fault (message_groups m))
messages_tested m top groups k e = ap (λ g. first_of (map message_fault g)) (ap groups_of e ∙ k.messages)

-- the messages
pub messages_read : (m : Members) (top : Top) (groups : List (Bor (BTreeMap (String Global) Value))) → IsTopOf top m → groups ≡ top.messages.items
    → map message_of (groups_of groups) ≡ messages_of m
messages_read m top groups k e = ap (map message_of) (ap groups_of e ∙ k.messages)

-- the tests across the groups
pub across_tested : (m : Members) (horizon : ℕ) (rows : List TaskRow) (drafts : List Draft)
    → horizon ≡ horizon_of m → rows ≡ rows_of m → map message_in drafts ≡ messages_of m
    → first_of (across_faults horizon rows (map message_in drafts)) ≡ first_of (across_faults (horizon_of m) (rows_of m) (messages_of m))
across_tested m horizon rows drafts h r d =
    ap (λ n. first_of (across_faults n rows (map message_in drafts))) h
    ∙ (ap (λ rs. first_of (across_faults (horizon_of m) rs (map message_in drafts))) r
    ∙ ap (λ ds. first_of (across_faults (horizon_of m) (rows_of m) ds)) d)

-- the messages by the numbers of their tasks
pub message_rows_read : (m : Members) (rows : List TaskRow) (drafts : List Draft) → rows ≡ rows_of m → map message_in drafts ≡ messages_of m
    → map (message_row rows) (map message_in drafts) ≡ map (message_row (rows_of m)) (messages_of m)
message_rows_read m rows drafts r d = ap (λ rs. map (message_row rs) (map message_in drafts)) r ∙ ap (map (message_row (rows_of m))) d

-- tables that are the same key by key
pub same_table : {horizon semaphores own shared horizon' semaphores' own' shared' : ℕ} {tasks tasks' : List TaskRow} {messages messages' : List MsgRow}
    → horizon ≡ horizon' → semaphores ≡ semaphores' → own ≡ own' → shared ≡ shared' → tasks ≡ tasks' → messages ≡ messages'
    → ◌≡◌ {A = Table}
    (record { horizon = horizon; semaphores = semaphores; own = own; shared = shared; tasks = tasks; messages = messages })
    (record { horizon = horizon'; semaphores = semaphores'; own = own'; shared = shared'; tasks = tasks'; messages = messages' })
same_table a b c d e f = rw (a, b, c, d, e, f) refl
