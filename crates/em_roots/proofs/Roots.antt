-- The selected task of a scene is the root of its least active task.
use Rattle.std.proofs.Common.{◌≡◌, ◌≢◌, ◌∙◌, ◌⊎◌, inl, inr, ℕ, zero, suc, ◌<◌, Bool, true, false, ◌&&◌, ◌||◌, eqb, List, Option, None, Some, sym, ap, refl, subst}
use Rattle.std.specs.Option.{option_map}
use Rattle.std.proofs.lemmas.Bool.{and_parts, or_cases, or_left, or_right, eqb-true, eq-eqb}
use Rattle.em_base.specs.Keys.{key_lt}
use Rattle.em_base.specs.Selection.{Scene, counts_for, effective_key, holds_up, key_or, least_by, selected, tasks_where}
use Rattle.em_roots.specs.Roots.{IsMostUrgent, IsRooted, least_active, root}
use Rattle.em_roots.proofs.Order.{lt_along, lt_from_apart}
use Rattle.em_roots.proofs.Least.{Least, NonePasses, Passing, IsStrict, least_tells, strict_is}

-- ---- chains

-- one step of a root
pub root_step : (depth : ℕ) (next : ℕ → Option ℕ) (t : ℕ) (o : Option ℕ) → next t ≡ o
    → root (suc depth) next t ≡ elim o as (λ _. ℕ) [ None ↦ t | Some v ↦ root depth next v ]
root_step depth next t o e = ap (λ x. elim x as (λ _. ℕ) [ None ↦ t | Some v ↦ root depth next v ]) e

-- a task that is stopped by none is its own root
pub root_here : (depth : ℕ) (next : ℕ → Option ℕ) (t : ℕ) → next t ≡ None → root depth next t ≡ t
root_here zero next t e = refl
root_here (suc depth) next t e = root_step depth next t None e

-- a chain that comes to a task that is stopped by none ends there
pub held_root : (depth : ℕ) (next : ℕ → Option ℕ) (t u : ℕ) → next t ≡ None → holds_up depth next t u ≡ true → root depth next u ≡ t
held_root zero next t u e h = absurd (cc)
held_root (suc depth) next t u e h = by_next (λ v. held_root depth next t v e) (next u) refl h
  where
    by_next : ((v : ℕ) → holds_up depth next t v ≡ true → root depth next v ≡ t) → (o : Option ℕ) → next u ≡ o
        → elim o as (λ _. Bool) [ None ↦ false | Some v ↦ eqb v t || holds_up depth next t v ] ≡ true → root (suc depth) next u ≡ t
    by_next more None q p = absurd (cc)
    by_next more (Some v) q p = root_step depth next u (Some v) q ∙ by_part (or_cases (eqb v t) (holds_up depth next t v) p)
      where
        by_part : (eqb v t ≡ true) ⊎ (holds_up depth next t v ≡ true) → root depth next v ≡ t
        by_part (inl here) = ap (root depth next) (eqb-true v t here) ∙ root_here depth next t e
        by_part (inr there) = more v there

-- a task is its root, or its root holds it up
pub root_holds : (depth : ℕ) (next : ℕ → Option ℕ) (u : ℕ) → (root depth next u ≡ u) ⊎ (holds_up depth next (root depth next u) u ≡ true)
root_holds zero next u = inl refl
root_holds (suc depth) next u = by_next (root_holds depth next) (next u) refl
  where
    by_next : ((v : ℕ) → (root depth next v ≡ v) ⊎ (holds_up depth next (root depth next v) v ≡ true)) → (o : Option ℕ) → next u ≡ o
        → (root (suc depth) next u ≡ u) ⊎ (holds_up (suc depth) next (root (suc depth) next u) u ≡ true)
    by_next below None q = inl (root_step depth next u None q)
    by_next below (Some v) q =
        let step : root (suc depth) next u ≡ root depth next v = root_step depth next u (Some v) q in
        let part : (eqb v (root depth next v) || holds_up depth next (root depth next v) v) ≡ true =
        elim (below v) as (λ _. (eqb v (root depth next v) || holds_up depth next (root depth next v) v) ≡ true) [
          | inl here ↦ or_left _ _ (eq-eqb v (root depth next v) (sym here))
          | inr there ↦ or_right _ _ there
        ] in
        let top : ℕ = root (suc depth) next u in
        inr (ap (λ x. elim x as (λ _. Bool) [ None ↦ false | Some v ↦ eqb v top || holds_up depth next top v ]) q
        ∙ ap (λ x. eqb v x || holds_up depth next x v) step
        ∙ part)

-- ---- in a scene

-- the end of a task's chain
abbrev pub root_of : Scene → ℕ → ℕ
root_of scene t = root scene.depth scene.next t

-- one of the tasks, and Awake or Waiting
abbrev pub IsActiveIn : Scene → ℕ → Type 0
IsActiveIn scene t = (t < scene.count) × (scene.active t ≡ true)

-- the root of an Awake or Waiting task is one
pub root_in : (scene : Scene) → IsRooted scene → (depth t : ℕ) → t < scene.count → scene.active t ≡ true
    → IsActiveIn scene (root depth scene.next t)
root_in scene g zero t l a = (l, a)
root_in scene g (suc depth) t l a = by_next (root_in scene g depth) (scene.next t) refl
  where
    by_next : ((v : ℕ) → v < scene.count → scene.active v ≡ true → IsActiveIn scene (root depth scene.next v)) → (o : Option ℕ)
        → scene.next t ≡ o → IsActiveIn scene (root (suc depth) scene.next t)
    by_next more None q = subst (IsActiveIn scene) (sym (root_step depth scene.next t None q)) (l, a)
    by_next more (Some v) q =
        let up = g.up t v l a q in
        subst (IsActiveIn scene) (sym (root_step depth scene.next t (Some v) q)) (more v up.0 up.1)

-- it is ready
pub root_ready : (scene : Scene) → IsRooted scene → (t : ℕ) → t < scene.count → scene.active t ≡ true
    → scene.ready (root_of scene t) ≡ true
root_ready scene g t l a =
    let inside = root_in scene g scene.depth t l a in
    g.free (root_of scene t) inside.0 inside.1 (g.ends t l a)

-- ---- lent keys

-- the effective key of t is the key of u, whose root t is, and no task whose root t is has a lesser one
pub record Lends (scene : Scene) (t u : ℕ) : Type 0 where
  pub key : effective_key scene t ≡ scene.key u
  pub below : u < scene.count
  pub active : scene.active u ≡ true
  pub ends_at : root_of scene u ≡ t
  pub least : (v : ℕ) → v < scene.count → scene.active v ≡ true → root_of scene v ≡ t
      → key_lt (scene.key v) (effective_key scene t) ≡ false

-- whether t holds up u
abbrev holds : Scene → ℕ → ℕ → Bool
holds scene t u = holds_up scene.depth scene.next t u

-- a task counts for its root
counts_for_root : (scene : Scene) (t v : ℕ) → scene.active v ≡ true → root_of scene v ≡ t → counts_for scene t v ≡ true
counts_for_root scene t v a r = by_chain (root_holds scene.depth scene.next v)
  where
    by_chain : (root_of scene v ≡ v) ⊎ (holds scene (root_of scene v) v ≡ true) → counts_for scene t v ≡ true
    by_chain (inl here) = or_left _ _ (eq-eqb v t (sym here ∙ r))
    by_chain (inr held) = or_right _ _ (ap (λ b. b && holds scene t v) a ∙ ap (λ x. holds scene x v) (sym r) ∙ held)

-- for a task that is stopped by none count the tasks whose root it is
counted_root : (scene : Scene) (t u : ℕ) → scene.active t ≡ true → scene.next t ≡ None → counts_for scene t u ≡ true
    → (scene.active u ≡ true) × (root_of scene u ≡ t)
counted_root scene t u a e p = by_part (or_cases (eqb u t) (scene.active u && holds scene t u) p)
  where
    by_part : (eqb u t ≡ true) ⊎ ((scene.active u && holds scene t u) ≡ true) → (scene.active u ≡ true) × (root_of scene u ≡ t)
    by_part (inl here) = (
      ap scene.active (eqb-true u t here) ∙ a,
      ap (root_of scene) (eqb-true u t here) ∙ root_here scene.depth scene.next t e,
    )
    by_part (inr held) = (
      (and_parts _ _ held).0,
      held_root scene.depth scene.next t u e (and_parts _ _ held).1,
    )

-- the tasks that count for t
abbrev counting : Scene → ℕ → List ℕ
counting scene t = tasks_where scene.count (counts_for scene t)

-- some task lends a ready task its key
pub lends : (scene : Scene) → IsRooted scene → (t : ℕ) → t < scene.count → scene.ready t ≡ true → (u : ℕ) × Lends scene t u
lends scene g t l y =
    by_least (least_by scene.key (counting scene t)) refl (least_tells scene.key scene.count (counts_for scene t))
  where
    by_least : (found : Option ℕ) → least_by scene.key (counting scene t) ≡ found → Least scene.key scene.count (counts_for scene t) found
        → (u : ℕ) × Lends scene t u
    by_least _ e (NonePasses none) = absurd (let q : false ≡ true = sym (none t l) ∙ or_left _ _ (eq-eqb t t refl) in cc)
    by_least _ e (Passing u h) =
        let free = g.is_free t l y in
        let counted = counted_root scene t u free.0 free.1 h.passes in
        let key : effective_key scene t ≡ scene.key u = ap (key_or scene.key (scene.key t)) e in (
          u,
          record {
            key = key;
            below = h.below;
            active = counted.0;
            ends_at = counted.1;
            least = λ v b a r. ap (λ k. key_lt (scene.key v) k) key ∙ h.least v b (counts_for_root scene t v a r);
          },
        )

-- ---- the law

-- the least active task lends its key to its root, and to no other
root_is_strict : (scene : Scene) → IsRooted scene → (m : ℕ) → IsMostUrgent scene.key scene.count scene.active m
    → IsStrict (effective_key scene) scene.count scene.ready (root_of scene m)
root_is_strict scene g m h =
    let top : ℕ = root_of scene m in
    let below : top < scene.count = (root_in scene g scene.depth m h.below h.passes).0 in
    let ready : scene.ready top ≡ true = root_ready scene g m h.below h.passes in
    record {
      below = below;
      passes = ready;
      less = λ t l y n.
          let mine = lends scene g top below ready in
          let its = lends scene g t l y in
          let low : key_lt (scene.key m) (effective_key scene top) ≡ false = mine.1.least m h.below h.passes refl in
          let over : key_lt (scene.key its.0) (scene.key m) ≡ false = h.least its.0 its.1.below its.1.active in
          let apart : m ≢ its.0 = λ e. n (sym its.1.ends_at ∙ ap (root_of scene) (sym e)) in
          let ids : (scene.key m).id ≢ (scene.key its.0).id = λ e. apart (sym (g.named m h.below) ∙ e ∙ g.named its.0 its.1.below) in
          let less : key_lt (scene.key m) (scene.key its.0) ≡ true = lt_from_apart (scene.key m) (scene.key its.0) ids over in
          ap (λ k. key_lt (effective_key scene top) k) its.1.key
          ∙ lt_along (scene.key m) (effective_key scene top) (scene.key its.0) low less;
    }

-- where no task is active none is ready
none_ready : (scene : Scene) → IsRooted scene → ((u : ℕ) → u < scene.count → scene.active u ≡ false) → (found : Option ℕ)
    → Least (effective_key scene) scene.count scene.ready found → found ≡ None
none_ready scene g none _ (NonePasses h) = refl
none_ready scene g none _ (Passing t h) = absurd (let q : false ≡ true = sym (none t h.below) ∙ (g.is_free t h.below h.passes).0 in cc)

-- the law, by what the least active task is
by_active : (scene : Scene) → IsRooted scene → (found : Option ℕ) → Least scene.key scene.count scene.active found
    → selected scene ≡ option_map (root_of scene) found
by_active scene g _ (NonePasses none) =
    none_ready scene g none (selected scene) (least_tells (effective_key scene) scene.count scene.ready)
by_active scene g _ (Passing m h) =
    strict_is (effective_key scene) scene.count scene.ready (root_of scene m) (root_is_strict scene g m h)

-- the selected task is the root of the least active one
pub selects_root : (scene : Scene) → IsRooted scene → selected scene ≡ option_map (root scene.depth scene.next) (least_active scene)
selects_root scene g = by_active scene g (least_active scene) (least_tells scene.key scene.count scene.active)
