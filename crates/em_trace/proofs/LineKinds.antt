-- The line of each kind is found by its words, and a line that is found is spelled by the words.
use Rattle.std.proofs.Common.{◌≡◌, ℕ, Bool, true, false, List, [], ◌∷◌, Option, Some, None, refl, sym, ap, ap₂, subst, ◌∙◌, codes, if◌then◌else◌}
use Rattle.std.proofs.lemmas.Slice.Eq.{bytes_eq-Decides}
use Rattle.std.specs.List.{AllByRecursion}
use Rattle.std.specs.Str.{bytes_eq}
use Rattle.em_trace.specs.declared.lines.Line.{Line}
use Rattle.em_trace.specs.declared.lines.Line.TheVariants.{Rel, Dropped, JobEnd, Acq, Free, Out, Sig, Put, Get, Refused, Faulted, Gone, Exited}
use Rattle.em_trace.proofs.LineWords.{IsExact, IsPlain, byte-exact, code-exact, count-exact, semaphore-exact, word-exact}
use Rattle.em_trace.specs.Printed.{IsLine, line_words}
use Rattle.em_trace.specs.Words.{line_of_four, line_of_one, line_of_three, line_of_two, line_of_words, msg, port, sem, task, with_four, with_one, with_three, with_two}

-- the words are those of the line, and may stand there
pub record IsSpelled (words : List (List ℕ)) (line : Line) : Type 0 where
  pub is_line : IsLine line
  pub spelled : line_words line ≡ words

-- its own words
itself : (line : Line) → IsLine line → IsSpelled (line_words line) line
itself line h = record { is_line = h; spelled = refl }

-- ---- what is found, by the number of words

-- what is found is the line that was made
made : (words : List (List ℕ)) (one line : Line) → IsSpelled words one → Some one ≡ Some line → IsSpelled words line
made words one line h e =
    let same : one ≡ line = cc in
    subst (IsSpelled words) same h

-- where a word is read, and what is found by it
reads : {A : Type 0} {r : List ℕ → Option A} {s : A → List ℕ} {F : A → Type 0} (x : IsExact r s F) (a : List ℕ) (rest : Option A → Option Line) (line : Line)
    (P : List ℕ → Type 0) → rest None ≡ None → ((m : A) → F m → rest (Some m) ≡ Some line → P (s m)) → rest (r a) ≡ Some line → P a
reads {A} {r} {s} {F} x a rest line P none some e = by_option (r a) refl e
  where
    by_option : (o : Option A) → r a ≡ o → rest o ≡ Some line → P a
    by_option None p k = absurd (cc)
    by_option (Some m) p k =
        let t = x.tells a m p in
        subst P t.0 (some m t.1 k)

one-tells : {A : Type 0} {r : List ℕ → Option A} {s : A → List ℕ} {F : A → Type 0} (x : IsExact r s F)
    (make : A → Line) (name a : List ℕ) (line : Line) → ((m : A) → F m → IsSpelled (name ∷ s m ∷ []) (make m))
    → with_one (r a) make ≡ Some line → IsSpelled (name ∷ a ∷ []) line
one-tells {A} {r} {s} {F} x make name a line spelled =
    reads x a (λ o. with_one o make) line (λ w. IsSpelled (name ∷ w ∷ []) line) refl
    (λ m f. made (name ∷ s m ∷ []) (make m) line (spelled m f))

two-tells : {A B : Type 0} {r : List ℕ → Option A} {s : A → List ℕ} {F : A → Type 0} {q : List ℕ → Option B} {t : B → List ℕ} {G : B → Type 0}
    (x : IsExact r s F) (y : IsExact q t G) (make : A → B → Line) (name a b : List ℕ) (line : Line)
    → ((m : A) (n : B) → F m → G n → IsSpelled (name ∷ s m ∷ t n ∷ []) (make m n))
    → with_two (r a) (q b) make ≡ Some line → IsSpelled (name ∷ a ∷ b ∷ []) line
two-tells {A} {B} {r} {s} {F} {q} {t} {G} x y make name a b line spelled =
    reads x a (λ o. with_two o (q b) make) line (λ w. IsSpelled (name ∷ w ∷ b ∷ []) line) refl
    (λ m f. reads y b (λ o. with_two (Some m) o make) line (λ w. IsSpelled (name ∷ s m ∷ w ∷ []) line) refl
    (λ n g. made (name ∷ s m ∷ t n ∷ []) (make m n) line (spelled m n f g)))

three-tells : {A B C : Type 0} {r : List ℕ → Option A} {s : A → List ℕ} {F : A → Type 0} {q : List ℕ → Option B} {t : B → List ℕ} {G : B → Type 0}
    {v : List ℕ → Option C} {u : C → List ℕ} {H : C → Type 0}
    (x : IsExact r s F) (y : IsExact q t G) (z : IsExact v u H) (make : A → B → C → Line) (name a b c : List ℕ) (line : Line)
    → ((k : A) (m : B) (n : C) → F k → G m → H n → IsSpelled (name ∷ s k ∷ t m ∷ u n ∷ []) (make k m n))
    → with_three (r a) (q b) (v c) make ≡ Some line → IsSpelled (name ∷ a ∷ b ∷ c ∷ []) line
three-tells {A} {B} {C} {r} {s} {F} {q} {t} {G} {v} {u} {H} x y z make name a b c line spelled =
    reads x a (λ o. with_three o (q b) (v c) make) line (λ w. IsSpelled (name ∷ w ∷ b ∷ c ∷ []) line) refl
    (λ k f. reads y b (λ o. with_three (Some k) o (v c) make) line (λ w. IsSpelled (name ∷ s k ∷ w ∷ c ∷ []) line) refl
    (λ m g. reads z c (λ o. with_three (Some k) (Some m) o make) line (λ w. IsSpelled (name ∷ s k ∷ t m ∷ w ∷ []) line) refl
    (λ n h. made (name ∷ s k ∷ t m ∷ u n ∷ []) (make k m n) line (spelled k m n f g h))))

four-tells : {A B C D : Type 0} {r : List ℕ → Option A} {s : A → List ℕ} {F : A → Type 0} {q : List ℕ → Option B} {t : B → List ℕ} {G : B → Type 0}
    {v : List ℕ → Option C} {u : C → List ℕ} {H : C → Type 0} {p : List ℕ → Option D} {o : D → List ℕ} {K : D → Type 0}
    (x : IsExact r s F) (y : IsExact q t G) (z : IsExact v u H) (last : IsExact p o K)
    (make : A → B → C → D → Line) (name a b c d : List ℕ) (line : Line)
    → ((k : A) (l : B) (m : C) (n : D) → F k → G l → H m → K n → IsSpelled (name ∷ s k ∷ t l ∷ u m ∷ o n ∷ []) (make k l m n))
    → with_four (r a) (q b) (v c) (p d) make ≡ Some line → IsSpelled (name ∷ a ∷ b ∷ c ∷ d ∷ []) line
four-tells {A} {B} {C} {D} {r} {s} {F} {q} {t} {G} {v} {u} {H} {p} {o} {K} x y z last make name a b c d line spelled =
    reads x a (λ i. with_four i (q b) (v c) (p d) make) line (λ w. IsSpelled (name ∷ w ∷ b ∷ c ∷ d ∷ []) line) refl
    (λ k f. reads y b (λ i. with_four (Some k) i (v c) (p d) make) line (λ w. IsSpelled (name ∷ s k ∷ w ∷ c ∷ d ∷ []) line) refl
    (λ l g. reads z c (λ i. with_four (Some k) (Some l) i (p d) make) line (λ w. IsSpelled (name ∷ s k ∷ t l ∷ w ∷ d ∷ []) line) refl
    (λ m h. reads last d (λ i. with_four (Some k) (Some l) (Some m) i make) line (λ w. IsSpelled (name ∷ s k ∷ t l ∷ u m ∷ w ∷ []) line) refl
    (λ n i. made (name ∷ s k ∷ t l ∷ u m ∷ o n ∷ []) (make k l m n) line (spelled k l m n f g h i)))))

-- ---- what is found, by the name

-- the line of a name, or of another
named : (P : List ℕ → Type 0) (name word : List ℕ) (found other : Option Line) (line : Line)
    → (found ≡ Some line → P word) → (other ≡ Some line → P name) → (if bytes_eq name word then found else other) ≡ Some line → P name
named P name word found other line same_name other_name e = by_test (bytes_eq name word) refl e
  where
    by_test : (b : Bool) → bytes_eq name word ≡ b → (if b then found else other) ≡ Some line → P name
    by_test true t k = subst P (sym ((bytes_eq-Decides name word).0 t)) (same_name k)
    by_test false t k = other_name k

no-name : (line : Line) {P : Type 0} → None ≡ Some line → P
no-name line e = absurd (cc)

one-spelled : (name a : List ℕ) (line : Line) → line_of_one name a ≡ Some line → IsSpelled (name ∷ a ∷ []) line
one-spelled name a line =
    named (λ n. IsSpelled (n ∷ a ∷ []) line) name (codes "exit") _ _ line
    (one-tells byte-exact (λ t. Exited (task t)) (codes "exit") a line (λ t f. itself (Exited (task t)) f))
    (no-name line)

two-spelled : (name a b : List ℕ) (line : Line) → line_of_two name a b ≡ Some line → IsSpelled (name ∷ a ∷ b ∷ []) line
two-spelled name a b line =
    let P : List ℕ → Type 0 = λ n. IsSpelled (n ∷ a ∷ b ∷ []) line in
    named P name (codes "drop") _ _ line
    (two-tells byte-exact count-exact (λ t n. Dropped (task t) n) (codes "drop") a b line (λ t n f g. itself (Dropped (task t) n) (f, g)))
    (named P name (codes "end") _ _ line
    (two-tells byte-exact count-exact (λ t n. JobEnd (task t) n) (codes "end") a b line (λ t n f g. itself (JobEnd (task t) n) (f, g)))
    (named P name (codes "acq") _ _ line
    (two-tells byte-exact byte-exact (λ t n. Acq (task t) (sem n)) (codes "acq") a b line (λ t n f g. itself (Acq (task t) (sem n)) (f, g)))
    (named P name (codes "free") _ _ line
    (two-tells byte-exact byte-exact (λ t n. Free (task t) (sem n)) (codes "free") a b line (λ t n f g. itself (Free (task t) (sem n)) (f, g)))
    (named P name (codes "gone") _ _ line
    (two-tells byte-exact word-exact (λ m n. Gone (port m) n) (codes "gone") a b line (λ m n f g. itself (Gone (port m) n) (f, g)))
    (no-name line)))))

three-spelled : (name a b c : List ℕ) (line : Line) → line_of_three name a b c ≡ Some line → IsSpelled (name ∷ a ∷ b ∷ c ∷ []) line
three-spelled name a b c line =
    let P : List ℕ → Type 0 = λ n. IsSpelled (n ∷ a ∷ b ∷ c ∷ []) line in
    named P name (codes "sig") _ _ line
    (three-tells byte-exact byte-exact count-exact (λ t m n. Sig (task t) (task m) n) (codes "sig") a b c line (λ t m n f g h. itself (Sig (task t) (task m) n) (f, g, h)))
    (named P name (codes "put") _ _ line
    (three-tells byte-exact byte-exact count-exact (λ t m n. Put (task t) (msg m) n) (codes "put") a b c line (λ t m n f g h. itself (Put (task t) (msg m) n) (f, g, h)))
    (named P name (codes "get") _ _ line
    (three-tells byte-exact byte-exact count-exact (λ t m n. Get (task t) (msg m) n) (codes "get") a b c line (λ t m n f g h. itself (Get (task t) (msg m) n) (f, g, h)))
    (named P name (codes "err") _ _ line
    (three-tells byte-exact word-exact code-exact (λ t m n. Refused (task t) m n) (codes "err") a b c line (λ t m n f g h. itself (Refused (task t) m n) (f, g, h)))
    (no-name line))))

four-spelled : (name a b c d : List ℕ) (line : Line) → line_of_four name a b c d ≡ Some line → IsSpelled (name ∷ a ∷ b ∷ c ∷ d ∷ []) line
four-spelled name a b c d line =
    let P : List ℕ → Type 0 = λ n. IsSpelled (n ∷ a ∷ b ∷ c ∷ d ∷ []) line in
    named P name (codes "rel") _ _ line
    (four-tells byte-exact count-exact count-exact word-exact (λ t l m n. Rel (task t) l m n) (codes "rel") a b c d line
    (λ t l m n f g h i. itself (Rel (task t) l m n) (f, g, h, i)))
    (named P name (codes "out") _ _ line
    (four-tells byte-exact byte-exact word-exact word-exact (λ t l m n. Out (task t) (port l) m n) (codes "out") a b c d line
    (λ t l m n f g h i. itself (Out (task t) (port l) m n) (f, g, h, i)))
    (named P name (codes "fault") _ _ line
    (four-tells byte-exact byte-exact word-exact semaphore-exact (λ t l m n. Faulted (task t) l m n) (codes "fault") a b c d line
    (λ t l m n f g h i. itself (Faulted (task t) l m n) (f, g, h, i)))
    (no-name line)))

-- a line that words give is spelled by them
pub words-spelled : (words : List (List ℕ)) (line : Line) → line_of_words words ≡ Some line → IsSpelled words line
words-spelled [] line e = absurd (cc)
words-spelled (name ∷ []) line e = absurd (cc)
words-spelled (name ∷ a ∷ []) line e = one-spelled name a line e
words-spelled (name ∷ a ∷ b ∷ []) line e = two-spelled name a b line e
words-spelled (name ∷ a ∷ b ∷ c ∷ []) line e = three-spelled name a b c line e
words-spelled (name ∷ a ∷ b ∷ c ∷ d ∷ []) line e = four-spelled name a b c d line e
words-spelled (name ∷ a ∷ b ∷ c ∷ d ∷ next ∷ more) line e = absurd (cc)

-- ---- a line is found by its words

one-finds : {A : Type 0} {r : List ℕ → Option A} {s : A → List ℕ} {F : A → Type 0} (x : IsExact r s F) (make : A → Line) (m : A)
    → F m → with_one (r (s m)) make ≡ Some (make m)
one-finds x make m f = ap (λ o. with_one o make) (x.finds m f)

two-finds : {A B : Type 0} {r : List ℕ → Option A} {s : A → List ℕ} {F : A → Type 0} {q : List ℕ → Option B} {t : B → List ℕ} {G : B → Type 0}
    (x : IsExact r s F) (y : IsExact q t G) (make : A → B → Line) (m : A) (n : B) → F m → G n
    → with_two (r (s m)) (q (t n)) make ≡ Some (make m n)
two-finds x y make m n f g = ap₂ (λ o p. with_two o p make) (x.finds m f) (y.finds n g)

three-finds : {A B C : Type 0} {r : List ℕ → Option A} {s : A → List ℕ} {F : A → Type 0} {q : List ℕ → Option B} {t : B → List ℕ} {G : B → Type 0}
    {v : List ℕ → Option C} {u : C → List ℕ} {H : C → Type 0}
    (x : IsExact r s F) (y : IsExact q t G) (z : IsExact v u H) (make : A → B → C → Line) (k : A) (m : B) (n : C) → F k → G m → H n
    → with_three (r (s k)) (q (t m)) (v (u n)) make ≡ Some (make k m n)
three-finds {r} {s} {v} {u} x y z make k m n f g h =
    ap₂ (λ o p. with_three o p (v (u n)) make) (x.finds k f) (y.finds m g) ∙ ap (λ o. with_three (Some k) (Some m) o make) (z.finds n h)

four-finds : {A B C D : Type 0} {r : List ℕ → Option A} {s : A → List ℕ} {F : A → Type 0} {q : List ℕ → Option B} {t : B → List ℕ} {G : B → Type 0}
    {v : List ℕ → Option C} {u : C → List ℕ} {H : C → Type 0} {p : List ℕ → Option D} {o : D → List ℕ} {K : D → Type 0}
    (x : IsExact r s F) (y : IsExact q t G) (z : IsExact v u H) (last : IsExact p o K)
    (make : A → B → C → D → Line) (k : A) (l : B) (m : C) (n : D) → F k → G l → H m → K n
    → with_four (r (s k)) (q (t l)) (v (u m)) (p (o n)) make ≡ Some (make k l m n)
four-finds {v} {u} {p} {o} x y z last make k l m n f g h i =
    ap₂ (λ a b. with_four a b (v (u m)) (p (o n)) make) (x.finds k f) (y.finds l g)
    ∙ ap₂ (λ a b. with_four (Some k) (Some l) a b make) (z.finds m h) (last.finds n i)

-- the line of its own words
pub words-find : (line : Line) → IsLine line → line_of_words (line_words line) ≡ Some line
words-find (Rel t job time word) h = four-finds byte-exact count-exact count-exact word-exact (λ a b c d. Rel (task a) b c d) t.0 job time word h.0 h.1 h.2 h.3
words-find (Dropped t time) h = two-finds byte-exact count-exact (λ a b. Dropped (task a) b) t.0 time h.0 h.1
words-find (JobEnd t job) h = two-finds byte-exact count-exact (λ a b. JobEnd (task a) b) t.0 job h.0 h.1
words-find (Acq t s) h = two-finds byte-exact byte-exact (λ a b. Acq (task a) (sem b)) t.0 s.0 h.0 h.1
words-find (Free t s) h = two-finds byte-exact byte-exact (λ a b. Free (task a) (sem b)) t.0 s.0 h.0 h.1
words-find (Out t p word value) h = four-finds byte-exact byte-exact word-exact word-exact (λ a b c d. Out (task a) (port b) c d) t.0 p.0 word value h.0 h.1 h.2 h.3
words-find (Sig t to job) h = three-finds byte-exact byte-exact count-exact (λ a b c. Sig (task a) (task b) c) t.0 to.0 job h.0 h.1 h.2
words-find (Put t m number) h = three-finds byte-exact byte-exact count-exact (λ a b c. Put (task a) (msg b) c) t.0 m.0 number h.0 h.1 h.2
words-find (Get t m number) h = three-finds byte-exact byte-exact count-exact (λ a b c. Get (task a) (msg b) c) t.0 m.0 number h.0 h.1 h.2
words-find (Refused t call code) h = three-finds byte-exact word-exact code-exact (λ a b c. Refused (task a) b c) t.0 call code h.0 h.1 h.2
words-find (Faulted t cause pc s) h = four-finds byte-exact byte-exact word-exact semaphore-exact (λ a b c d. Faulted (task a) b c d) t.0 cause pc s h.0 h.1 h.2 h.3
words-find (Gone p value) h = two-finds byte-exact word-exact (λ a b. Gone (port a) b) p.0 value h.0 h.1
words-find (Exited t) h = one-finds byte-exact (λ a. Exited (task a)) t.0 h

-- no word of a line has a space
pub words-plain : (line : Line) → IsLine line → AllByRecursion IsPlain (line_words line)
words-plain (Rel t job time word) h = (refl, (byte-exact.plain t.0 h.0, (count-exact.plain job h.1, (count-exact.plain time h.2, (word-exact.plain word h.3, tt)))))
words-plain (Dropped t time) h = (refl, (byte-exact.plain t.0 h.0, (count-exact.plain time h.1, tt)))
words-plain (JobEnd t job) h = (refl, (byte-exact.plain t.0 h.0, (count-exact.plain job h.1, tt)))
words-plain (Acq t s) h = (refl, (byte-exact.plain t.0 h.0, (byte-exact.plain s.0 h.1, tt)))
words-plain (Free t s) h = (refl, (byte-exact.plain t.0 h.0, (byte-exact.plain s.0 h.1, tt)))
words-plain (Out t p word value) h = (refl, (byte-exact.plain t.0 h.0, (byte-exact.plain p.0 h.1, (word-exact.plain word h.2, (word-exact.plain value h.3, tt)))))
words-plain (Sig t to job) h = (refl, (byte-exact.plain t.0 h.0, (byte-exact.plain to.0 h.1, (count-exact.plain job h.2, tt))))
words-plain (Put t m number) h = (refl, (byte-exact.plain t.0 h.0, (byte-exact.plain m.0 h.1, (count-exact.plain number h.2, tt))))
words-plain (Get t m number) h = (refl, (byte-exact.plain t.0 h.0, (byte-exact.plain m.0 h.1, (count-exact.plain number h.2, tt))))
words-plain (Refused t call code) h = (refl, (byte-exact.plain t.0 h.0, (word-exact.plain call h.1, (code-exact.plain code h.2, tt))))
words-plain (Faulted t cause pc s) h = (refl, (byte-exact.plain t.0 h.0, (byte-exact.plain cause h.1, (word-exact.plain pc h.2, (semaphore-exact.plain s h.3, tt)))))
words-plain (Gone p value) h = (refl, (byte-exact.plain p.0 h.0, (word-exact.plain value h.1, tt)))
words-plain (Exited t) h = (refl, (byte-exact.plain t.0 h, tt))
