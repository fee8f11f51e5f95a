-- What is always so of buffers and copies is so after each kind of step.
use Rattle.std.proofs.Common.{◌≡◌, ◌≢◌, ◌∙◌, ◌⊎◌, inl, inr, ℕ, ◌+◌, ◌<◌, ◌≤◌, true, false, List, [], ◌∷◌, length, slice_index_or, slice_set, Option, None, Some, sym, ap, subst, refl, arith}
use Rattle.std.proofs.lemmas.Bool.{cases_eq}
use Rattle.std.proofs.lemmas.List.{get_or-set_same, get_or-set_other, length-replicate, length-set}
use Rattle.em_base.specs.declared.apps.App.{App}
use Rattle.em_base.specs.declared.ids.MsgId.{MsgId}
use Rattle.em_trace.specs.declared.lines.Line.{Line}
use Rattle.em_gate.specs.Calls.{words_of, writes}
use Rattle.em_gate.specs.Effects.{with_core}
use Rattle.em_gate.specs.State.{Copy, Core, Reads, Task, Writes, no_task, task_at}
use Rattle.em_state.specs.Buffers.{IsResting, Kept as Buffer}
use Rattle.em_system.specs.Asked.{IsInside}
use Rattle.em_system.specs.Held.{Held, answered, held_answered, tasks_of}
use Rattle.em_system.specs.Windows.{core_in, held_word_put, own_word, with_words_from}
use Rattle.em_system.proofs.Stands.{tasks_changed}
use Rattle.em_threads.specs.Threads.{Thread, changed, thread_at, with_task}
use Rattle.em_kernel.specs.Buffers.{AreBuffers, HasBegun, HasPublished, HasPut, IsKept, IsMade, IsRead, IsTaken, IsWrite, IsWritten}
use Rattle.em_kernel.specs.Kept.{buffer_at, no_buffer}
use Rattle.em_kernel.specs.Metered.{with_one}
use Rattle.em_kernel.specs.Moves.{copy_at}
use Rattle.em_kernel.proofs.Buffered.{kept_buffer, kept_held, made_after, made_more, no_copy, one_writer, read_no_write, rests_after, rests_same, same_message}

-- what is held after a step of the task t that leaves the own windows of the others
pub record Leaves (held held' : Held) (t : ℕ) : Type 0 where
  pub app : held'.app ≡ held.app
  pub count : length held'.threads ≡ length held.threads
  pub others : (u : ℕ) → u ≢ t → (core_in held'.threads u).own ≡ (core_in held.threads u).own

-- ---- copies

-- the copy of a task that was set, and that of another
pub copy_here : (copies : List (Option Copy)) (t : ℕ) (copy : Option Copy) → t < length copies → copy_at (slice_set copies t copy) t ≡ copy
copy_here copies t copy h = get_or-set_same copies t copy None h

pub copy_there : (copies : List (Option Copy)) (t : ℕ) (copy : Option Copy) (u : ℕ) → u ≢ t → copy_at (slice_set copies t copy) u ≡ copy_at copies u
copy_there copies t copy u other = get_or-set_other copies t u copy None other

-- a task without a copy takes a step, or an event comes
pub stayed : (held held' : Held) (buffers : List Buffer) (copies : List (Option Copy)) (count count' t : ℕ) → Leaves held held' t
    → copy_at copies t ≡ None → count ≤ count' → AreBuffers held buffers copies count → AreBuffers held' buffers copies count'
stayed held held' buffers copies count count' t is none le h = record {
  tasks = h.tasks ∙ sym is.count;
  messages = h.messages ∙ ap (λ (a : App). length a.table.messages) (sym is.app);
  made = λ m l. subst (λ (a : App). IsMade a.table m (buffer_at buffers m) count') (sym is.app) (made_more held.app.table m (buffer_at buffers m) count count' le (h.made m l));
  kept = λ u. elim (cases_eq u t) as (λ _. IsKept held' buffers u (copy_at copies u)) [
    | inl e ↦ subst (IsKept held' buffers u) (sym (ap (copy_at copies) e ∙ none)) tt
    | inr other ↦ kept_held held held' buffers u (copy_at copies u) is.app (is.others u other) (h.kept u)
  ];
  rests = subst (λ (a : App). (n : ℕ) → n < length buffers → IsResting (buffer_at buffers n) ⊎ IsWritten a.table copies n) (sym is.app) h.rests;
}

-- a task whose copy is no write takes a step, and has another copy after it
pub copied : (held held' : Held) (buffers : List Buffer) (copies : List (Option Copy)) (count count' t : ℕ) (copy : Option Copy) → Leaves held held' t
    → t < length copies → ((n : MsgId) (at done : ℕ) → copy_at copies t ≡ Some (Writes n at done) → ⊥)
    → IsKept held' buffers t copy → count ≤ count' → AreBuffers held buffers copies count → AreBuffers held' buffers (slice_set copies t copy) count'
copied held held' buffers copies count count' t copy is inside gone k le h = record {
  tasks = length-set copies t copy ∙ h.tasks ∙ sym is.count;
  messages = h.messages ∙ ap (λ (a : App). length a.table.messages) (sym is.app);
  made = λ m l. subst (λ (a : App). IsMade a.table m (buffer_at buffers m) count') (sym is.app) (made_more held.app.table m (buffer_at buffers m) count count' le (h.made m l));
  kept = λ u. elim (cases_eq u t) as (λ _. IsKept held' buffers u (copy_at (slice_set copies t copy) u)) [
    | inl e ↦ subst (λ i. IsKept held' buffers i (copy_at (slice_set copies t copy) i)) (sym e) (subst (IsKept held' buffers t) (sym (copy_here copies t copy inside)) k)
    | inr other ↦ subst (IsKept held' buffers u) (sym (copy_there copies t copy u other))
        (kept_held held held' buffers u (copy_at copies u) is.app (is.others u other) (h.kept u))
  ];
  rests = subst (λ (a : App). (n : ℕ) → n < length buffers → IsResting (buffer_at buffers n) ⊎ IsWritten a.table (slice_set copies t copy) n) (sym is.app)
      (rests_same held.app.table buffers copies (slice_set copies t copy) t gone (copy_there copies t copy) h.rests);
}

-- ---- a write

-- the buffer of a message that the task t writes is changed, and the task's copy: by what the buffer and the copy are then
pub written : (held held' : Held) (buffers : List Buffer) (copies copies' : List (Option Copy)) (count count' t : ℕ) (m : MsgId) (b : Buffer) → Leaves held held' t
    → length copies' ≡ length copies → ((u : ℕ) → u ≢ t → copy_at copies' u ≡ copy_at copies u) → m.0 < length buffers
    → writes held.app.table t m.0 ≡ true → ((n at done : ℕ) → n ≢ m.0 → copy_at copies t ≡ Some (Writes (record { 0 = n }) at done) → ⊥)
    → (buffer_at buffers m.0).newest ≤ b.newest → IsMade held.app.table m.0 b count' → IsResting b ⊎ IsWritten held.app.table copies' m.0
    → IsKept held' (slice_set buffers m.0 b) t (copy_at copies' t) → count ≤ count'
    → AreBuffers held buffers copies count → AreBuffers held' (slice_set buffers m.0 b) copies' count'
written held held' buffers copies copies' count count' t m b is many others exists writer gone rises made here k le h = record {
  tasks = many ∙ h.tasks ∙ sym is.count;
  messages = length-set buffers m.0 b ∙ h.messages ∙ ap (λ (a : App). length a.table.messages) (sym is.app);
  made = subst (λ (a : App). (n : ℕ) → n < length (slice_set buffers m.0 b) → IsMade a.table n (buffer_at (slice_set buffers m.0 b) n) count') (sym is.app)
      (made_after held.app.table buffers m.0 b count count' exists le made h.made);
  kept = λ u. elim (cases_eq u t) as (λ _. IsKept held' (slice_set buffers m.0 b) u (copy_at copies' u)) [
    | inl e ↦ subst (λ i. IsKept held' (slice_set buffers m.0 b) i (copy_at copies' i)) (sym e) k
    | inr other ↦ subst (IsKept held' (slice_set buffers m.0 b) u) (sym (others u other))
        (kept_held held held' (slice_set buffers m.0 b) u (copy_at copies u) is.app (is.others u other)
        (kept_buffer held buffers m.0 b u (copy_at copies u) exists rises (λ w. other (one_writer held.app.table m.0 t u writer w)) (h.kept u)))
  ];
  rests = subst (λ (a : App). (n : ℕ) → n < length (slice_set buffers m.0 b) → IsResting (buffer_at (slice_set buffers m.0 b) n) ⊎ IsWritten a.table copies' n) (sym is.app)
      (rests_after held.app.table buffers m.0 b copies copies' t exists here gone others h.rests);
}

-- nothing has changed of what is held
pub itself : (held : Held) (t : ℕ) → Leaves held held t
itself held t = record { app = refl; count = refl; others = λ u other. refl }

-- a task without a copy writes no message
pub none_written : (copies : List (Option Copy)) (t : ℕ) → copy_at copies t ≡ None → (n : MsgId) (at done : ℕ) → copy_at copies t ≡ Some (Writes n at done) → ⊥
none_written copies t e n at done w = no_copy (Writes n at done) (sym e ∙ w)

-- nor does one that reads
pub read_written : (copies : List (Option Copy)) (t : ℕ) (m : MsgId) (from noted read : ℕ) → copy_at copies t ≡ Some (Reads m from noted read)
    → (n : MsgId) (at done : ℕ) → copy_at copies t ≡ Some (Writes n at done) → ⊥
read_written copies t m from noted read e n at done w = read_no_write m n from noted read at done (sym e ∙ w)

-- one that writes a message writes no other
pub other_written : (copies : List (Option Copy)) (t : ℕ) (m : MsgId) (from read : ℕ) → copy_at copies t ≡ Some (Writes m from read)
    → (n at done : ℕ) → n ≢ m.0 → copy_at copies t ≡ Some (Writes (record { 0 = n }) at done) → ⊥
other_written copies t m from read e n at done other w =
    other (ap (λ (k : MsgId). k.0) (same_message m (record { 0 = n }) from read at done (sym e ∙ w)))

-- a write begins: of its message no word is taken
pub begun : (held : Held) (buffers : List Buffer) (copies : List (Option Copy)) (count t : ℕ) (m : MsgId) (at : ℕ) (b : Buffer) → t < length copies
    → m.0 < length buffers → copy_at copies t ≡ None → IsInside held.app.table m.0 at → writes held.app.table t m.0 ≡ true
    → IsResting (buffer_at buffers m.0) → HasBegun (buffer_at buffers m.0) b
    → AreBuffers held buffers copies count → AreBuffers held (slice_set buffers m.0 b) (slice_set copies t (Some (Writes m at 0))) count
begun held buffers copies count t m at b inside exists none granted writer rest is h =
    let made = h.made m.0 exists in
    let here = copy_here copies t (Some (Writes m at 0)) inside in
    written held held buffers copies (slice_set copies t (Some (Writes m at 0))) count count t m b (itself held t)
    (length-set copies t (Some (Writes m at 0))) (copy_there copies t (Some (Writes m at 0))) exists writer
    (λ n from done other w. none_written copies t none (record { 0 = n }) from done w) (omega (arith, is.same.newest))
    (record { some = omega (arith, made.some, is.same.words); few = omega (arith, made.few, is.same.words); words = is.same.words ∙ made.words; depth = is.same.depth ∙ made.depth; early = omega (arith, is.same.newest, made.early) })
    (inr (t, at, 0, writer, here))
    (subst (IsKept held (slice_set buffers m.0 b) t) (sym here) (record {
      inside = granted;
      writes = writer;
      more = omega (arith, made.some, made.words);
      taken = subst (IsTaken (core_in held.threads t) at 0) (sym (get_or-set_same buffers m.0 b no_buffer exists)) (record {
        writing = is.begun ∙ ap (λ n. n + 1) (rest ∙ sym is.same.newest);
        draft = ap length is.draft ∙ length-replicate (buffer_at buffers m.0).words 0 ∙ sym is.same.words;
        put = ap length is.put ∙ length-replicate (buffer_at buffers m.0).words false ∙ sym is.same.words;
        marked = λ j l. absurd (omega (arith, l));
        same = λ j l. absurd (omega (arith, l));
      });
    }))
    (omega arith) h

-- one word more is taken
pub taken_more : (core : Core) (at done : ℕ) (before after : Buffer) → done < before.words → HasPut before after done (own_word core at done)
    → IsTaken core at done before → IsTaken core at (done + 1) after
taken_more core at done before after inside is h = record {
  writing = is.begun ∙ h.writing ∙ ap (λ n. n + 1) (sym is.same.newest);
  draft = ap length is.draft ∙ length-set before.draft done (own_word core at done) ∙ h.draft ∙ sym is.same.words;
  put = ap length is.put ∙ length-set before.put done true ∙ h.put ∙ sym is.same.words;
  marked = λ j l. ap (λ put. slice_index_or put j false) is.put ∙ mark j l (cases_eq j done);
  same = λ j l. ap (λ draft. slice_index_or draft j 0) is.draft ∙ word j l (cases_eq j done);
}
  where
    mark : (j : ℕ) → j < done + 1 → (j ≡ done) ⊎ (j ≢ done) → slice_index_or (slice_set before.put done true) j false ≡ true
    mark j l (inl e) = ap (λ i. slice_index_or (slice_set before.put done true) i false) e ∙ get_or-set_same before.put done true false (omega (arith, inside, h.put))
    mark j l (inr other) = get_or-set_other before.put done j true false other ∙ h.marked j (below j l other)
      where
        below : (j : ℕ) → j < done + 1 → j ≢ done → j < done
        below j l other = grind (arith, l, other)

    word : (j : ℕ) → j < done + 1 → (j ≡ done) ⊎ (j ≢ done) → slice_index_or (slice_set before.draft done (own_word core at done)) j 0 ≡ own_word core at j
    word j l (inl e) =
        ap (λ i. slice_index_or (slice_set before.draft done (own_word core at done)) i 0) e
        ∙ get_or-set_same before.draft done (own_word core at done) 0 (omega (arith, inside, h.draft)) ∙ ap (own_word core at) (sym e)
    word j l (inr other) = get_or-set_other before.draft done j (own_word core at done) 0 other ∙ h.same j (below j l other)
      where
        below : (j : ℕ) → j < done + 1 → j ≢ done → j < done
        below j l other = grind (arith, l, other)

-- a word of a write is taken: with the copy that the task has then
pub taken : (held : Held) (buffers : List Buffer) (copies : List (Option Copy)) (count t : ℕ) (m : MsgId) (at done : ℕ) (b : Buffer) → t < length copies
    → m.0 < length buffers → copy_at copies t ≡ Some (Writes m at done) → done + 1 < words_of held.app.table m.0
    → HasPut (buffer_at buffers m.0) b done (own_word (core_in held.threads t) at done)
    → IsWrite held buffers t m.0 at done
    → AreBuffers held buffers copies count → AreBuffers held (slice_set buffers m.0 b) (slice_set copies t (Some (Writes m at (done + 1)))) count
taken held buffers copies count t m at done b inside exists e more is k h =
    let made = h.made m.0 exists in
    let here = copy_here copies t (Some (Writes m at (done + 1))) inside in
    written held held buffers copies (slice_set copies t (Some (Writes m at (done + 1)))) count count t m b (itself held t)
    (length-set copies t (Some (Writes m at (done + 1)))) (copy_there copies t (Some (Writes m at (done + 1)))) exists k.writes
    (other_written copies t m at done e) (omega (arith, is.same.newest))
    (record { some = omega (arith, made.some, is.same.words); few = omega (arith, made.few, is.same.words); words = is.same.words ∙ made.words; depth = is.same.depth ∙ made.depth; early = omega (arith, is.same.newest, made.early) })
    (inr (t, at, done + 1, k.writes, here))
    (subst (IsKept held (slice_set buffers m.0 b) t) (sym here) (record {
      inside = k.inside;
      writes = k.writes;
      more = more;
      taken = subst (IsTaken (core_in held.threads t) at (done + 1)) (sym (get_or-set_same buffers m.0 b no_buffer exists))
          (taken_more (core_in held.threads t) at done (buffer_at buffers m.0) b (omega (arith, k.more, made.words)) is k.taken);
    }))
    (omega arith) h

-- the last word is taken, and the value is published: the task has no copy then
pub ended : (held held' : Held) (buffers : List Buffer) (copies : List (Option Copy)) (count t : ℕ) (m : MsgId) (at done : ℕ) (b b' : Buffer) → Leaves held held' t
    → t < length copies → m.0 < length buffers → copy_at copies t ≡ Some (Writes m at done)
    → HasPut (buffer_at buffers m.0) b done (own_word (core_in held.threads t) at done) → HasPublished b b'
    → IsWrite held buffers t m.0 at done
    → AreBuffers held buffers copies count → AreBuffers held' (slice_set buffers m.0 b') (slice_set copies t None) (count + 1)
ended held held' buffers copies count t m at done b b' leaves inside exists e is out k h =
    let made = h.made m.0 exists in
    let here = copy_here copies t None inside in
    written held held' buffers copies (slice_set copies t None) count (count + 1) t m b' leaves
    (length-set copies t None) (copy_there copies t None) exists k.writes
    (other_written copies t m at done e) (omega (arith, is.same.newest, out.newest))
    (record {
      some = omega (arith, made.some, is.same.words, out.words);
      few = omega (arith, made.few, is.same.words, out.words);
      words = out.words ∙ is.same.words ∙ made.words;
      depth = out.depth ∙ is.same.depth ∙ made.depth;
      early = omega (arith, is.same.newest, out.newest, made.early);
    })
    (inl (out.begun ∙ is.begun ∙ k.taken.writing ∙ ap (λ n. n + 1) (sym is.same.newest) ∙ sym out.newest))
    (subst (IsKept held' (slice_set buffers m.0 b') t) (sym here) tt)
    (omega arith) h

-- ---- events

-- what is held after an event: each own window stays
pub record Events (held held' : Held) : Type 0 where
  pub app : held'.app ≡ held.app
  pub count : length held'.threads ≡ length held.threads
  pub own : (u : ℕ) → (core_in held'.threads u).own ≡ (core_in held.threads u).own

pub happened : (held held' : Held) (buffers : List Buffer) (copies : List (Option Copy)) (count count' : ℕ) → Events held held' → count ≤ count'
    → AreBuffers held buffers copies count → AreBuffers held' buffers copies count'
happened held held' buffers copies count count' is le h = record {
  tasks = h.tasks ∙ sym is.count;
  messages = h.messages ∙ ap (λ (a : App). length a.table.messages) (sym is.app);
  made = λ m l. subst (λ (a : App). IsMade a.table m (buffer_at buffers m) count') (sym is.app) (made_more held.app.table m (buffer_at buffers m) count count' le (h.made m l));
  kept = λ u. kept_held held held' buffers u (copy_at copies u) is.app (is.own u) (h.kept u);
  rests = subst (λ (a : App). (n : ℕ) → n < length buffers → IsResting (buffer_at buffers n) ⊎ IsWritten a.table copies n) (sym is.app) h.rests;
}

-- lines are counted upwards
pub counted : (count : ℕ) (line : Option Line) → count ≤ with_one count line
counted count None = omega arith
counted count (Some line) = omega arith

-- ---- what the kernel asks of a buffer

-- a message rests whose writer has no copy
pub resting : (held : Held) (buffers : List Buffer) (copies : List (Option Copy)) (count t : ℕ) (m : MsgId) → m.0 < length buffers → copy_at copies t ≡ None
    → writes held.app.table t m.0 ≡ true → AreBuffers held buffers copies count → IsResting (buffer_at buffers m.0)
resting held buffers copies count t m exists none writer h = elim (h.rests m.0 exists) as (λ _. IsResting (buffer_at buffers m.0)) [
  | inl rest ↦ rest
  | inr (u, at, done, w, e) ↦ absurd (no_copy (Writes (record { 0 = m.0 }) at done)
      (sym none ∙ ap (copy_at copies) (sym (one_writer held.app.table m.0 t u writer w)) ∙ e))
]

-- a write of a task
pub write_of : (held : Held) (buffers : List Buffer) (copies : List (Option Copy)) (count t : ℕ) (m : MsgId) (at done : ℕ) → copy_at copies t ≡ Some (Writes m at done)
    → AreBuffers held buffers copies count → IsWrite held buffers t m.0 at done
write_of held buffers copies count t m at done e h = subst (IsKept held buffers t) e (h.kept t)

-- and a read
pub read_of : (held : Held) (buffers : List Buffer) (copies : List (Option Copy)) (count t : ℕ) (m : MsgId) (at noted done : ℕ) → copy_at copies t ≡ Some (Reads m at noted done)
    → AreBuffers held buffers copies count → IsRead held buffers m.0 at noted done
read_of held buffers copies count t m at noted done e h = subst (IsKept held buffers t) e (h.kept t)

-- ---- what is held after one thread was changed

-- one thread was changed: the others' own windows stay
pub leaves_changed : (held held' : Held) (f : Thread → Thread) (t : ℕ) → held'.app ≡ held.app → held'.threads ≡ changed f t held.threads → Leaves held held' t
leaves_changed held held' f t app threads = record {
  app = app;
  count = ap (λ (ts : List Thread). length ts) threads ∙ length-set held.threads t (f (thread_at held.threads t));
  others = λ u other.
      ap (λ (ts : List Thread). (core_in ts u).own) threads
      ∙ ap (λ (tasks : List Task). (task_at tasks u).core.own) (tasks_changed f t held.threads)
      ∙ ap (λ (task : Task). task.core.own) (get_or-set_other (tasks_of held.threads) t u (f (thread_at held.threads t)).task no_task other);
}

-- once, and then again
pub leaves_again : (held held' held'' : Held) (t : ℕ) → Leaves held held' t → Leaves held' held'' t → Leaves held held'' t
leaves_again held held' held'' t a b = record {
  app = b.app ∙ a.app;
  count = b.count ∙ a.count;
  others = λ u other. b.others u other ∙ a.others u other;
}

pub put_leaves : (held : Held) (t at done word : ℕ) → Leaves held (held_word_put t at done word held) t
put_leaves held t at done word =
    leaves_changed held (held_word_put t at done word held) (with_task (λ task. with_core (with_words_from at done (word ∷ []) task.core) task)) t refl refl

pub answer_leaves : (held : Held) (t answer : ℕ) → Leaves held (held_answered t answer held) t
answer_leaves held t answer = leaves_changed held (held_answered t answer held) (with_task (answered answer)) t refl refl

-- the words of a buffer after a word was put
pub words_after : (held : Held) (buffers buffers' seen : List Buffer) (copies : List (Option Copy)) (count : ℕ) (m : MsgId) (b : Buffer) (done word : ℕ) → seen ≡ buffers'
    → buffers' ≡ slice_set buffers m.0 b → m.0 < length buffers → HasPut (buffer_at buffers m.0) b done word → AreBuffers held buffers copies count
    → (buffer_at seen m.0).words ≡ words_of held.app.table m.0
words_after held buffers buffers' seen copies count m b done word es e exists is h =
    ap (λ bs. (buffer_at bs m.0).words) (es ∙ e) ∙ ap (λ (x : Buffer). x.words) (get_or-set_same buffers m.0 b no_buffer exists)
    ∙ is.same.words ∙ (h.made m.0 exists).words
