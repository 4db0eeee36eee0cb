-- The places of a queue's blocks: what a push, a pop and one more block make of them.
use Rattle.std.proofs.Common.{◌≡◌, ◌≤◌, ℕ, zero, suc, ◌+◌, ◌-◌, ◌*◌, ◌^◌, ◌<◌, ◌==◌, cond, List, [], ◌∷◌, ◌++◌, map, length, take, drop, replicate, set, get_or, slice_get, refl, sym, ap, ◌∙◌, subst, append_assoc, arith}
use Rattle.std.proofs.lemmas.List.{length-append, length-set, length-drop, length-map, length-replicate, map-append, replicate-append-replicate}
use lib.Seq.{set_at, get_or_at, take_at, drop_at}
use Rattle.std.specs.Prelude.{Option, Some, None}
use Rattle.circular_buffer.specs.Places.{somes}
use Rattle.nm_limbo.specs.Blocks.{IsEmptyAt}
use Rattle.nm_limbo.specs.List.{BlockList, block_list}
use Rattle.nm_limbo.specs.Queue.{BlockQueue, block_queue, popped, laid, items_in, left_in, block_queue_of, IsBalanced, IsPopped, IsLaid, IsQueue}
use Rattle.nm_limbo.proofs.Lists.{take_empty, drop_empty}

module _ {X : Type 0} where
  abbrev blank : ℕ → List (Option X)
  blank n = replicate n None

  somes_blank : (n : ℕ) (cs : List (Option X)) → somes (blank n ++ cs) ≡ somes cs
  somes_blank zero cs = refl
  somes_blank (suc n) cs = somes_blank n cs

  somes_items : (xs : List X) (r : ℕ) → somes (map Some xs ++ blank r) ≡ xs
  somes_items [] zero = refl
  somes_items [] (suc r) = somes_items [] r
  somes_items (x ∷ xs) r = ap (λ ys. x ∷ ys) (somes_items xs r)

  pub somes_laid : (p : ℕ) (xs : List X) (r : ℕ) → somes (laid p xs r) ≡ xs
  somes_laid p xs r = somes_blank p (map Some xs ++ blank r) ∙ somes_items xs r

  pub laid_read : (p : ℕ) (x : X) (xs : List X) (r : ℕ) → get_or (laid p (x ∷ xs) r) p None ≡ Some x
  laid_read p x xs r = get_or_at (blank p) (Some x) (map Some xs ++ blank r) None p
      (length-replicate {A = Option X} p None)

  one_more : (p : ℕ) (cs : List (Option X)) → blank p ++ None ∷ cs ≡ blank (suc p) ++ cs
  one_more zero cs = refl
  one_more (suc p) cs = ap (λ ds. None ∷ ds) (one_more p cs)

  pub laid_pop : (p : ℕ) (x : X) (xs : List X) (r : ℕ) → set (laid p (x ∷ xs) r) p None ≡ laid (suc p) xs r
  laid_pop p x xs r = set_at (blank p) (Some x) (map Some xs ++ blank r) None p
      (length-replicate {A = Option X} p None) ∙ one_more p (map Some xs ++ blank r)

  head_length : (p : ℕ) (xs : List X) → length (blank p ++ map Some xs) ≡ p + length xs
  head_length p xs = omega (
    arith,
    length-append (blank p) (map Some xs),
    length-replicate {A = Option X} p None,
    length-map xs Some,
  )

  pub laid_spare : (p : ℕ) (xs : List X) (r : ℕ) → get_or (laid p xs (suc r)) (p + length xs) None ≡ None
  laid_spare p xs r =
      ap (λ cs. get_or cs (p + length xs) None) (sym (append_assoc (blank p) (map Some xs) (None ∷ blank r)))
      ∙ get_or_at (blank p ++ map Some xs) None (blank r) None (p + length xs) (head_length p xs)

  pub laid_push : (p : ℕ) (xs : List X) (r : ℕ) (x : X)
      → set (laid p xs (suc r)) (p + length xs) (Some x) ≡ laid p (xs ++ x ∷ []) r
  laid_push p xs r x =
      ap (λ cs. set cs (p + length xs) (Some x)) (sym (append_assoc (blank p) (map Some xs) (None ∷ blank r)))
      ∙ set_at (blank p ++ map Some xs) None (blank r) (Some x) (p + length xs) (head_length p xs)
      ∙ append_assoc (blank p) (map Some xs) (Some x ∷ blank r)
      ∙ ap (λ cs. blank p ++ cs) (sym (append_assoc (map Some xs) (Some x ∷ []) (blank r))
      ∙ ap (λ cs. cs ++ blank r) (sym (map-append Some xs (x ∷ []))))

  pub laid_grow : (p : ℕ) (xs : List X) (r n : ℕ) → laid p xs r ++ blank n ≡ laid p xs (r + n)
  laid_grow p xs r n =
      append_assoc (blank p) (map Some xs ++ blank r) (blank n)
      ∙ ap (λ cs. blank p ++ cs) (append_assoc (map Some xs) (blank r) (blank n)
      ∙ ap (λ cs. map Some xs ++ cs) (replicate-append-replicate r n None))

  pub laid_take : (p : ℕ) (xs : List X) (r : ℕ) → take p (laid p xs r) ≡ blank p
  laid_take p xs r = take_at (blank p) (map Some xs ++ blank r) p (length-replicate {A = Option X} p None)

  pub laid_drop : (p : ℕ) (xs : List X) (r : ℕ) → drop p (laid p xs r) ≡ laid 0 xs r
  laid_drop p xs r = drop_at (blank p) (map Some xs ++ blank r) p (length-replicate {A = Option X} p None)

-- what a pop frees by the places that were used up before it
abbrev freed : ℕ → ℕ
freed p = cond (p == 31) 32 0

freed_block : (p : ℕ) → p ≡ 31 → freed p ≡ 32
freed_block p e = let all : freed 31 ≡ 32 = refl in subst (λ k. freed k ≡ 32) (sym e) all

freed_none : (p : ℕ) → p < 31 → freed p ≡ 0
freed_none p lt = grind arith

-- the first item and the rest
pub first_item : {X : Type 0} (xs : List X) → 0 < length xs → (x : X) × (ys : List X) × (xs ≡ x ∷ ys)
first_item [] lt = absurd (omega arith)
first_item (x ∷ xs) lt = (x, xs, refl)

-- with the item x at the front, q is what a clause sees before the pop, and r after it
popped_gives : {X : Type 0} (q r : BlockQueue X) (x : X) (ys : List X) (spare blocks more : ℕ)
    → q ≡ block_queue (x ∷ ys) spare blocks → r ≡ block_queue ys (spare + more) blocks
    → freed (popped q) ≡ more → IsPopped q r x
popped_gives q r x ys spare blocks more was is gives = (
  ap (λ w. w.items) was ∙ ap (λ zs. x ∷ zs) (sym (ap (λ w. w.items) is)),
  ap (λ w. w.blocks) is ∙ sym (ap (λ w. w.blocks) was),
  ap (λ w. w.spare) is ∙ (λ i. sym (ap (λ w. w.spare) was) i + sym gives i),
)

module _ {X A : Type 0} where
  -- what lies in the blocks says which queue they are
  pub queue_made : (used empty : BlockList X A) (p n : ℕ) (xs : List X) (s : ℕ) (a : A) → IsLaid used empty p xs s a
      → n ≡ length xs → s ≤ 31
      → IsQueue used empty p n a × (block_queue_of used empty p n
      ≡ block_queue xs (s + length empty.slots) (used.blocks + empty.blocks))
  queue_made used empty p n xs s a is count few =
      let items : xs ≡ somes used.slots = sym (ap somes is.laid_out ∙ somes_laid p xs s) in
      let left : s ≡ length used.slots - (p + n) = omega (arith, is.whole) in (
        (
          (count ∙ ap length items, subst (λ k. k ≤ 31) left few),
          subst
              (λ ys. IsLaid used empty p ys (length used.slots - (p + n)) a) items
              (subst (λ k. IsLaid used empty p xs k a) left is),
        ),
        (λ i. block_queue (sym items i) (sym left i + length empty.slots) (used.blocks + empty.blocks)),
      )

  pub used_up : (used empty : BlockList X A) (p : ℕ) (xs : List X) (s : ℕ) (a : A) → IsLaid used empty p xs s a
      → popped (block_queue xs (s + length empty.slots) (used.blocks + empty.blocks)) ≡ p
  used_up used empty p xs s a is = omega (arith, is.whole, is.places.0, is.places.1)

  pub queue_balanced : (used empty : BlockList X A) (p n : ℕ) (a : A) (q : BlockQueue X) → IsQueue used empty p n a
      → block_queue_of used empty p n ≡ q → IsBalanced q
  queue_balanced used empty p n a q is view =
      let l = is.1 in
      let all : IsBalanced (block_queue_of used empty p n) = (
        omega (arith, l.whole, l.places.0, l.places.1),
        omega
            (arith, l.whole, l.places.0, l.places.1, l.front),
      ) in subst IsBalanced view all

  module _ (used empty : BlockList X A) (p : ℕ) (s : ℕ) (a : A) where
    -- a pop of the first item
    pub item_at : (x : X) (ys : List X) → IsLaid used empty p (x ∷ ys) s a → get_or used.slots p None ≡ Some x
    item_at x ys is = ap (λ cs. get_or cs p None) is.laid_out ∙ laid_read p x ys s

    read_out : (x : X) (ys : List X) (new : BlockList X A) → IsLaid used empty p (x ∷ ys) s a
        → new ≡ block_list (set used.slots p None) used.blocks used.alloc → new.slots ≡ laid (suc p) ys s
    read_out x ys new is e = ap (λ l. l.slots) e ∙ ap (λ cs. set cs p None) is.laid_out ∙ laid_pop p x ys s

    read_length : (new : BlockList X A) → new ≡ block_list (set used.slots p None) used.blocks used.alloc
        → length new.slots ≡ length used.slots
    read_length new e = ap (λ l. length l.slots) e ∙ length-set used.slots p None

    pub popped_within : (x : X) (ys : List X) (new : BlockList X A) → IsLaid used empty p (x ∷ ys) s a → p < 31
        → new ≡ block_list (set used.slots p None) used.blocks used.alloc → IsLaid new empty (p + 1) ys s a
    popped_within x ys new is lt e =
        let more : suc p ≡ p + 1 = omega arith in let blocks = ap (λ l. l.blocks) e in let long = read_length new e in
        record {
          alloc = (ap (λ l. l.alloc) e ∙ is.alloc.0, is.alloc.1);
          places = (omega (arith, is.places.0), is.places.1);
          small = omega (arith, is.small);
          front = omega arith;
          back = is.back;
          whole = omega (arith, is.whole);
          laid_out = read_out x ys new is e ∙ ap (λ k. laid k ys s) more;
          free = is.free;
        }

    pub used_up_first : (x : X) (ys : List X) (new : BlockList X A) → IsLaid used empty p (x ∷ ys) s a → p ≡ 31
        → new ≡ block_list (set used.slots p None) used.blocks used.alloc → take 32 new.slots ≡ replicate 32 None
    used_up_first x ys new is last e =
        let full : suc p ≡ 32 = omega arith in
        ap (take 32) (read_out x ys new is e ∙ ap (λ k. laid k ys s) full) ∙ laid_take 32 ys s

    pub popped_last : (x : X) (ys : List X) (read new free : BlockList X A) → IsLaid used empty p (x ∷ ys) s a → p ≡ 31
        → read ≡ block_list (set used.slots p None) used.blocks used.alloc
        → new ≡ block_list (drop 32 read.slots) (read.blocks - 1) read.alloc
        → free ≡ block_list (empty.slots ++ replicate 32 None) (empty.blocks + 1) empty.alloc → IsLaid new free 0 ys s a
    popped_last x ys read new free is last er en ef =
        let full : suc p ≡ 32 = omega arith in
        let slots : read.slots ≡ laid 32 ys s = read_out x ys read is er ∙ ap (λ k. laid k ys s) full in
        let was = ap (λ l. l.blocks) er in let now = ap (λ l. l.blocks) en in let more = ap (λ l. l.blocks) ef in
        let long = read_length read er in let short = ap (λ l. length l.slots) en ∙ length-drop 32 read.slots in
        let longer = ap (λ l. length l.slots) ef ∙ length-append empty.slots (replicate 32 None) in
        record {
          alloc = (ap (λ l. l.alloc) en ∙ ap (λ l. l.alloc) er ∙ is.alloc.0, ap (λ l. l.alloc) ef ∙ is.alloc.1);
          places = (omega (arith, is.places.0, is.whole), omega (arith, is.places.1));
          small = omega (arith, is.small, is.places.0, is.whole);
          front = omega arith;
          back = is.back;
          whole = omega (arith, is.whole);
          laid_out = ap (λ l. l.slots) en ∙ ap (drop 32) slots ∙ laid_drop 32 ys s;
          free = ap (λ l. l.slots) ef ∙ ap (λ cs. cs ++ replicate 32 None) is.free
              ∙ replicate-append-replicate (length empty.slots) 32 None ∙ ap (λ k. replicate k None) (sym longer);
        }

    -- one more block
    pub grown : (xs : List X) (free : BlockList X A) → IsLaid used empty p xs s a
        → used.blocks + empty.blocks + 1 < 2 ^ 26
        → free ≡ block_list (empty.slots ++ replicate 32 None) (empty.blocks + 1) empty.alloc
        → IsLaid used free p xs s a × (s + length free.slots ≡ s + length empty.slots + 32)
    grown xs free is fits ef =
        let more = ap (λ l. l.blocks) ef in
        let longer = ap (λ l. length l.slots) ef ∙ length-append empty.slots (replicate 32 None) in (
          record {
            alloc = (is.alloc.0, ap (λ l. l.alloc) ef ∙ is.alloc.1);
            places = (is.places.0, omega (arith, is.places.1));
            small = omega arith;
            front = is.front;
            back = is.back;
            whole = is.whole;
            laid_out = is.laid_out;
            free = ap (λ l. l.slots) ef ∙ ap (λ cs. cs ++ replicate 32 None) is.free
                ∙ replicate-append-replicate (length empty.slots) 32 None ∙ ap (λ k. replicate k None) (sym longer);
          },
          omega arith,
        )

    -- the blocks in use are full, and the first of the others is one more
    pub opened : (xs : List X) (new free : BlockList X A) → IsLaid used empty p xs s a → s ≡ 0 → 0 < empty.blocks
        → free ≡ block_list (drop 32 empty.slots) (empty.blocks - 1) empty.alloc
        → new ≡ block_list (used.slots ++ replicate 32 None) (used.blocks + 1) used.alloc
        → IsLaid new free p xs 32 a × (32 + length free.slots ≡ s + length empty.slots)
        × (new.blocks + free.blocks ≡ used.blocks + empty.blocks)
    opened xs new free is full some ef en =
        let more = ap (λ l. l.blocks) en in let fewer = ap (λ l. l.blocks) ef in
        let long = ap (λ l. length l.slots) en ∙ length-append used.slots (replicate 32 None) in
        let short = ap (λ l. length l.slots) ef ∙ length-drop 32 empty.slots in
        let sum : s + 32 ≡ 32 = omega arith in (
          record {
            alloc = (ap (λ l. l.alloc) en ∙ is.alloc.0, ap (λ l. l.alloc) ef ∙ is.alloc.1);
            places = (omega (arith, is.places.0), omega (arith, is.places.1));
            small = omega (arith, is.small);
            front = is.front;
            back = omega arith;
            whole = omega (arith, is.whole);
            laid_out = ap (λ l. l.slots) en ∙ ap (λ cs. cs ++ replicate 32 None) is.laid_out ∙ laid_grow p xs s 32
                ∙ ap (laid p xs) sum;
            free = ap (λ l. l.slots) ef ∙ drop_empty empty.slots 32 is.free
                ∙ ap (λ cs. replicate (length cs) None) (sym (ap (λ l. l.slots) ef));
          },
          omega (arith, is.places.1),
          omega arith,
        )

    pub first_empty : (xs : List X) → IsLaid used empty p xs s a → 0 < empty.blocks
        → take 32 empty.slots ≡ replicate 32 None
    first_empty xs is some = take_empty empty.slots 32 is.free (omega (arith, is.places.1))

    -- the place after the items, where one is spare
    pub spare_at : (xs : List X) (r k : ℕ) → IsLaid used empty p xs s a → s ≡ suc r → k ≡ p + length xs
        → IsEmptyAt used.slots k
    spare_at xs r k is some at = (
      omega (arith, is.whole),
      ap (λ n. get_or used.slots n None) at
          ∙ ap (λ cs. get_or cs (p + length xs) None) (is.laid_out ∙ ap (laid p xs) some) ∙ laid_spare p xs r,
    )

    pub pushed : (xs : List X) (r k : ℕ) (x : X) (new : BlockList X A) → IsLaid used empty p xs s a → s ≡ suc r
        → k ≡ p + length xs
        → new ≡ block_list (set used.slots k (Some x)) used.blocks used.alloc → IsLaid new empty p (xs ++ x ∷ []) r a
    pushed xs r k x new is some at e =
        let blocks = ap (λ l. l.blocks) e in
        let long = ap (λ l. length l.slots) e ∙ length-set used.slots k (Some x) in
        let count = length-append xs (x ∷ []) in
        record {
          alloc = (ap (λ l. l.alloc) e ∙ is.alloc.0, is.alloc.1);
          places = (omega (arith, is.places.0), is.places.1);
          small = omega (arith, is.small);
          front = is.front;
          back = omega (arith, is.back);
          whole = omega (arith, is.whole);
          laid_out = ap (λ l. l.slots) e ∙ ap (λ n. set used.slots n (Some x)) at
              ∙ ap (λ cs. set cs (p + length xs) (Some x)) (is.laid_out ∙ ap (laid p xs) some) ∙ laid_push p xs r x;
          free = is.free;
        }

  -- where there are items, the first lies after the used-up places
  pub front_at : (used empty : BlockList X A) (p n : ℕ) (a : A) (q : BlockQueue X) → IsQueue used empty p n a → 0 < n
      → block_queue_of used empty p n ≡ q
      → (p < 32) × ((x : X) × (get_or used.slots p None ≡ Some x))
      × ((x : X) → get_or used.slots p None ≡ Some x → Some x ≡ slice_get q.items 0)
  front_at used empty p n a q is some view =
      let e = first_item (items_in used) (omega (arith, is.0.0)) in let s = left_in used p n in
      let at = item_at used empty p s a e.0 e.1 (subst (λ xs. IsLaid used empty p xs s a) e.2 is.1) in
      let first : slice_get q.items 0 ≡ Some e.0 = ap (λ xs. slice_get xs 0) (sym (ap (λ w. w.items) view) ∙ e.2) in
      (omega (arith, is.1.front), (e.0, at), λ x found. sym found ∙ at ∙ sym first)

  module _ (used empty : BlockList X A) (p n : ℕ) (a : A) (q r : BlockQueue X) (x : X) (read : BlockList X A) where
    abbrev left : ℕ
    left = left_in used p n

    -- x is at the front
    fronted : IsQueue used empty p n a → 0 < n → block_queue_of used empty p n ≡ q → get_or used.slots p None ≡ Some x
        → (ys : List X) × IsLaid used empty p (x ∷ ys) left a × (n ≡ length ys + 1)
        × (q ≡ block_queue (x ∷ ys) (left + length empty.slots) (used.blocks + empty.blocks)) × (popped q ≡ p)
    fronted is some view at =
        let e = first_item (items_in used) (omega (arith, is.0.0)) in
        let first = subst (λ xs. IsLaid used empty p xs left a) e.2 is.1 in
        let found : Some e.0 ≡ Some x = sym (item_at used empty p left a e.0 e.1 first) ∙ at in
        let same : e.0 ≡ x = cc in let cut : items_in used ≡ x ∷ e.1 = e.2 ∙ ap (λ y. y ∷ e.1) same in
        let count = ap length cut in
        let now = subst (λ xs. IsLaid used empty p xs left a) cut is.1 in
        let was : q ≡ block_queue (x ∷ e.1) (left + length empty.slots) (used.blocks + empty.blocks) = sym view
        ∙ ap (λ xs. block_queue xs (left + length empty.slots) (used.blocks + empty.blocks)) cut in
        (e.1, now, omega (arith, is.0.0), was, ap popped was ∙ used_up used empty p (x ∷ e.1) left a now)

    -- what moving the front block requires, once its last item is out
    pub pop_last_requires : IsQueue used empty p n a → 0 < n → block_queue_of used empty p n ≡ q
        → get_or used.slots p None ≡ Some x → p ≡ 31
        → read ≡ block_list (set used.slots p None) used.blocks used.alloc
        → (0 < read.blocks) × (take 32 read.slots ≡ replicate 32 None) × (empty.alloc ≡ read.alloc)
        × (empty.blocks < 2 ^ 31)
    pop_last_requires is some view at last er =
        let f = fronted is some view at in let blocks = ap (λ l. l.blocks) er in (
          omega (arith, f.1.whole, f.1.places.0),
          used_up_first used empty p left a x f.0 read f.1 last er,
          is.1.alloc.1 ∙ sym (ap (λ l. l.alloc) er ∙ is.1.alloc.0),
          omega (arith, is.1.small),
        )

    pub pop_within : IsQueue used empty p n a → 0 < n → block_queue_of used empty p n ≡ q
        → get_or used.slots p None ≡ Some x → p < 31
        → read ≡ block_list (set used.slots p None) used.blocks used.alloc
        → IsQueue read empty (p + 1) (n - 1) a × (r ≡ block_queue_of read empty (p + 1) (n - 1) → IsPopped q r x)
    pop_within is some view at lt er =
        let f = fronted is some view at in
        let made = queue_made read empty (p + 1) (n - 1) f.0 left a
        (popped_within used empty p left a x f.0 read f.1 lt er) (omega (arith, f.2)) is.0.1 in
        let sum : left + length empty.slots ≡ left + length empty.slots + 0 = omega arith in
        let blocks : read.blocks + empty.blocks ≡ used.blocks + empty.blocks = ap (λ l. l.blocks + empty.blocks) er in (
          made.0,
          λ now. popped_gives q r x f.0 (left + length empty.slots) (used.blocks + empty.blocks) 0 f.3
              (now ∙ made.1 ∙ (λ i. block_queue f.0 (sum i) (blocks i))) (freed_none (popped q) (omega (arith, f.4))),
        )

    pub pop_last : (new free : BlockList X A) → IsQueue used empty p n a → 0 < n → block_queue_of used empty p n ≡ q
        → get_or used.slots p None ≡ Some x → p ≡ 31
        → read ≡ block_list (set used.slots p None) used.blocks used.alloc
        → new ≡ block_list (drop 32 read.slots) (read.blocks - 1) read.alloc
        → free ≡ block_list (empty.slots ++ replicate 32 None) (empty.blocks + 1) empty.alloc
        → IsQueue new free 0 (n - 1) a × (r ≡ block_queue_of new free 0 (n - 1) → IsPopped q r x)
    pop_last new free is some view at last er en ef =
        let f = fronted is some view at in
        let laid = popped_last used empty p left a x f.0 read new free f.1 last er en ef in
        let made = queue_made new free 0 (n - 1) f.0 left a laid (omega (arith, f.2)) is.0.1 in
        let more = ap (λ l. l.blocks) ef in let was = ap (λ l. l.blocks) er in let now = ap (λ l. l.blocks) en in
        let some = f.1.whole in let places = f.1.places.0 in
        let longer = ap (λ l. length l.slots) ef ∙ length-append empty.slots (replicate 32 None) in
        let sum : left + length free.slots ≡ left + length empty.slots + 32 = omega arith in
        let blocks : new.blocks + free.blocks ≡ used.blocks + empty.blocks = omega arith in (
          made.0,
          λ now. popped_gives q r x f.0 (left + length empty.slots) (used.blocks + empty.blocks) 32 f.3
              (now ∙ made.1 ∙ (λ i. block_queue f.0 (sum i) (blocks i))) (freed_block (popped q) (f.4 ∙ last)),
        )

  -- the place after the items is in the last of the blocks in use
  abbrev pub IsReady : BlockList X A → BlockList X A → ℕ → ℕ → A → BlockQueue X → Type 0
  IsReady used empty p n a q = (r : ℕ) × IsLaid used empty p q.items (suc r) a × (n ≡ length q.items)
      × (suc r + length empty.slots ≡ q.spare) × (used.blocks + empty.blocks ≡ q.blocks)

  module _ (used empty : BlockList X A) (p n : ℕ) (a : A) (q : BlockQueue X) where
    abbrev rest : ℕ
    rest = left_in used p n

    seen : IsQueue used empty p n a → block_queue_of used empty p n ≡ q
        → IsLaid used empty p q.items rest a × (n ≡ length q.items)
    seen is view = let items = ap (λ w. w.items) view in
        (subst (λ xs. IsLaid used empty p xs rest a) items is.1, is.0.0 ∙ ap length items)

    pub ready : IsQueue used empty p n a → block_queue_of used empty p n ≡ q → p + n < length used.slots
        → IsReady used empty p n a q
    ready is view lt =
        let s = seen is view in let more : rest ≡ suc (rest - 1) = omega arith in (
          rest - 1,
          subst (λ k. IsLaid used empty p q.items k a) more s.0,
          s.1,
          omega (arith, ap (λ w. w.spare) view),
          ap (λ w. w.blocks) view,
        )

    some_empty : IsQueue used empty p n a → block_queue_of used empty p n ≡ q → p + n ≡ length used.slots
        → 0 < q.spare → 0 < empty.blocks
    some_empty is view full some = omega (arith, ap (λ w. w.spare) view, is.1.places.1)

    pub full_requires : IsQueue used empty p n a → block_queue_of used empty p n ≡ q → p + n ≡ length used.slots
        → 0 < q.spare
        → (0 < empty.blocks) × (take 32 empty.slots ≡ replicate 32 None) × (used.alloc ≡ empty.alloc)
        × (used.blocks < 2 ^ 31)
    full_requires is view full some =
        let e = some_empty is view full some in (
          e,
          first_empty used empty p rest a (items_in used) is.1 e,
          is.1.alloc.0
              ∙ sym is.1.alloc.1,
          omega (arith, is.1.small),
        )

    pub ready_full : (new free : BlockList X A) → IsQueue used empty p n a → block_queue_of used empty p n ≡ q
        → p + n ≡ length used.slots → 0 < q.spare
        → free ≡ block_list (drop 32 empty.slots) (empty.blocks - 1) empty.alloc
        → new ≡ block_list (used.slots ++ replicate 32 None) (used.blocks + 1) used.alloc
        → IsReady new free p n a q
    ready_full new free is view full some ef en =
        let s = seen is view in let none : rest ≡ 0 = omega arith in
        let o = opened used empty p rest a q.items new free s.0 none (some_empty is view full some) ef en in
        (31, o.0, s.1, o.1 ∙ ap (λ w. w.spare) view, o.2 ∙ ap (λ w. w.blocks) view)

    -- where the place lies, counted from the first block, and in the last one
    pub place_in : (i : ℕ) → IsReady used empty p n a q → i ≡ p + n + 32 - 32 * used.blocks
        → (0 < used.blocks) × (i < 32) × (32 * (used.blocks - 1) + i ≡ p + n)
        × IsEmptyAt used.slots (32 * (used.blocks - 1) + i)
    place_in i is e =
        let w = is.1.whole in let l = is.1.places.0 in let b = is.1.back in
        let some : 0 < used.blocks = omega (arith, is.2) in
        let at : 32 * (used.blocks - 1) + i ≡ p + n = omega (arith, is.2) in (
          some,
          omega (arith, is.2),
          at,
          spare_at used empty p (suc is.0) a q.items is.0 (32 * (used.blocks - 1) + i)
              is.1 refl (omega (arith, is.2)),
        )

    pub push_made : (k : ℕ) (x : X) (new : BlockList X A) → IsReady used empty p n a q → k ≡ p + n
        → new ≡ block_list (set used.slots k (Some x)) used.blocks used.alloc
        → IsQueue new empty p (n + 1) a × (block_queue_of new empty p (n + 1)
        ≡ block_queue (q.items ++ x ∷ []) (q.spare - 1) q.blocks)
    push_made k x new is at e =
        let count = length-append q.items (x ∷ []) in let blocks = ap (λ l. l.blocks) e in
        let made = queue_made new empty p (n + 1) (q.items ++ x ∷ []) is.0 a
        (pushed used empty p (suc is.0) a q.items is.0 k x new is.1 refl (omega (arith, is.2)) e)
        (omega (arith, is.2)) (omega (arith, is.1.back)) in
        let spare : is.0 + length empty.slots ≡ q.spare - 1 = omega (arith, is.3) in
        let same : new.blocks + empty.blocks ≡ q.blocks = omega (arith, is.4) in
        (made.0, made.1 ∙ (λ i. block_queue (q.items ++ x ∷ []) (spare i) (same i)))

    -- one more block, where few items and few spare places call for it
    pub block_added : (free : BlockList X A) → IsQueue used empty p n a → block_queue_of used empty p n ≡ q
        → q.spare < 1024 → length q.items ≤ 536870912
        → free ≡ block_list (empty.slots ++ replicate 32 None) (empty.blocks + 1) empty.alloc → IsQueue used free p n a
    block_added free is view spare items ef =
        let s = seen is view in let left = ap (λ w. w.spare) view in
        let few : used.blocks + empty.blocks + 1 < 2 ^ 26 = omega
        (arith, s.0.front, s.0.whole, s.0.places.0, s.0.places.1) in
        (queue_made used free p n q.items rest a (grown used empty p rest a q.items free s.0 few ef).0 s.1 is.0.1).0
