-- A worker's part of a run that goes by an entry: the turn of that entry, the turns before it and
-- those behind it.
use Rattle.std.proofs.Common.{◌≡◌, ℕ, suc, ◌+◌, ◌≤◌, Bool, ◌==◌, true, false, cond, ◌||◌, List, [], ◌∷◌, ◌++◌, refl, sym, ap, subst, ◌∙◌, arith}
use Rattle.std.specs.Prelude.{Option, Some, None, Result, Ok, Err, All}
use Rattle.std.specs.List.{list_any}
use Rattle.std.proofs.lemmas.Bool.{or_parts}
use Rattle.nm_edge.specs.Layouts.{Layout}
use Rattle.nm_model.specs.declared.event.Event.{Event}
use Rattle.nm_model.specs.declared.reply.Reply.{Reply}
use Rattle.nm_model.specs.declared.reply.Refused.{Refused}
use Rattle.nm_model.specs.declared.trace.Turn.{Turn}
use Rattle.nm_model.specs.Learning.{learn}
use Rattle.nm_model.specs.Runs.{State, of, reply_of}
use Rattle.nm_model.specs.Walks.{Entry, logged_by, log_of}
use Rattle.nm_model.specs.Ordered.{Configuration, refused_in, next_in, outcome_in, after_in, trace_in}
use Rattle.nm_laws.proofs.Steps.{allowed}
use Rattle.nm_laws.proofs.Configurations.{refused_next, allowed_by_state}
use Rattle.nm_order.specs.Intervals.{HasKey}
use Rattle.nm_order.specs.Logs.{is_leaver, takes_part, part_of, known_after}
use Rattle.nm_order.proofs.OrderedLaws.{IsOrdered, ordered_next, law_of_state}
use Rattle.nm_order.proofs.PartsOfRuns.{partaking, refused_adds, others_add, own_adds, next_state, tells}
use Rattle.nm_order.proofs.WalksOfRuns.{trace_in-append}
use Rattle.nm_progress.specs.Moves.{number_of}

-- ---- a part that goes by an entry

pub record SplitTurn (w : ℕ) (c : Configuration) (ts : List (ℕ × Event)) (xs : List Entry) (e : Entry)
    (ys : List Entry) : Type 0 where
  pub before : List (ℕ × Event)
  pub turn : ℕ × Event
  pub since : List (ℕ × Event)
  pub is_run : ts ≡ before ++ turn ∷ since
  pub is_before : part_of w (trace_in c before) ≡ xs
  pub is_allowed : refused_in (after_in c before) turn.0 turn.1 ≡ None
  pub takes : takes_part w turn.0 turn.1 ≡ true
  pub is_entry : (turn.1, reply_of (after_in c before).state turn.0 turn.1) ≡ e
  pub is_since : part_of w (trace_in (next_in (after_in c before) turn) since) ≡ ys

head_is : (x y : Entry) (xs ys : List Entry) → x ∷ xs ≡ y ∷ ys → (x ≡ y) × (xs ≡ ys)
head_is x y xs ys h = (cc, cc)

module _ (w : ℕ) where
  behind : (c : Configuration) (t : ℕ × Event) (ts : List (ℕ × Event)) (xs more : List Entry) (e : Entry)
      (ys : List Entry) → ((us : List (ℕ × Event)) → part_of w (trace_in c (t ∷ us))
      ≡ more ++ part_of w (trace_in (next_in c t) us))
      → SplitTurn w (next_in c t) ts xs e ys → SplitTurn w c (t ∷ ts) (more ++ xs) e ys
  unfolding after_in
  behind c t ts xs more e ys adds l = record {
    before = t ∷ l.before;
    turn = l.turn;
    since = l.since;
    is_run = ap (λ (us : List (ℕ × Event)). t ∷ us) l.is_run;
    is_before = adds l.before ∙ ap (λ (zs : List Entry). more ++ zs) l.is_before;
    is_allowed = l.is_allowed;
    takes = l.takes;
    is_entry = l.is_entry;
    is_since = l.is_since;
  }

  pub split_turn : (ts : List (ℕ × Event)) (c : Configuration) (xs : List Entry) (e : Entry) (ys : List Entry)
      → part_of w (trace_in c ts) ≡ xs ++ e ∷ ys → SplitTurn w c ts xs e ys
  unfolding after_in trace_in
  split_turn [] c [] e ys is = absurd (go is)
    where
      go : ◌≡◌ {A = List Entry} [] (e ∷ ys) → ⊥
      go h = cc
  split_turn [] c (f ∷ xs) e ys is = absurd (go is)
    where
      go : ◌≡◌ {A = List Entry} [] (f ∷ (xs ++ e ∷ ys)) → ⊥
      go h = cc
  split_turn (t ∷ ts) c xs e ys is = go (refused_in c t.0 t.1) refl (split_turn ts (next_in c t))
    where
      Rest : Type 0
      Rest = (xs : List Entry) (e : Entry) (ys : List Entry) → part_of w (trace_in (next_in c t) ts) ≡ xs ++ e ∷ ys
          → SplitTurn w (next_in c t) ts xs e ys

      go : (o : Option Refused) → refused_in c t.0 t.1 ≡ o → Rest → SplitTurn w c (t ∷ ts) xs e ys
      go (Some r) why rest = behind c t ts xs [] e ys
          (λ us. refused_adds w c t us r why ∙ ap (λ (d : Configuration). part_of w (trace_in d us))
          (sym (refused_next c t r why)))
          (rest xs e ys (ap (λ (d : Configuration). part_of w (trace_in d ts)) (refused_next c t r why)
          ∙ (sym (refused_adds w c t ts r why) ∙ is)))
      go None why rest = by (takes_part w t.0 t.1) refl
        where
          r : Reply
          r = reply_of c.state t.0 t.1

          own : takes_part w t.0 t.1 ≡ true → (xs : List Entry)
              → (t.1, r) ∷ part_of w (trace_in (next_in c t) ts) ≡ xs ++ e ∷ ys → SplitTurn w c (t ∷ ts) xs e ys
          own takes [] same = record {
            before = [];
            turn = t;
            since = ts;
            is_run = refl;
            is_before = refl;
            is_allowed = why;
            takes = takes;
            is_entry = (head_is (t.1, r) e (part_of w (trace_in (next_in c t) ts)) ys same).0;
            is_since = (head_is (t.1, r) e (part_of w (trace_in (next_in c t) ts)) ys same).1;
          }
          own takes (f ∷ xs) same =
              let parts = head_is (t.1, r) f (part_of w (trace_in (next_in c t) ts)) (xs ++ e ∷ ys) same in
              subst (λ (f : Entry). SplitTurn w c (t ∷ ts) (f ∷ xs) e ys) parts.0
              (behind c t ts xs ((t.1, r) ∷ []) e ys (λ us. own_adds w c t us why takes) (rest xs e ys parts.1))

          by : (b : Bool) → takes_part w t.0 t.1 ≡ b → SplitTurn w c (t ∷ ts) xs e ys
          by true takes = own takes xs (sym (own_adds w c t ts why takes) ∙ is)
          by false none = behind c t ts xs [] e ys (λ us. others_add w c t us why none)
              (rest xs e ys (sym (others_add w c t ts why none) ∙ is))

  -- ---- what a worker knows behind a part

  module _ (L : Layout) (enough : 5 ≤ L.nodes) where
    pub ordered_after : (ts : List (ℕ × Event)) → All (λ t. HasKey t.1) ts → (c : Configuration) → IsOrdered L c
        → IsOrdered L (after_in c ts)
    unfolding after_in
    ordered_after [] keys c o = o
    ordered_after (t ∷ ts) keys c o = ordered_after ts (λ i d below. keys (suc i) d (omega (arith, below)))
        (next_in c t) (ordered_next L enough c t (keys 0 t (omega arith)) o)

    pub part_teaches : (ts : List (ℕ × Event)) → (c : Configuration) → IsOrdered L c
        → of (after_in c ts).state w ≡ known_after w (of c.state w) (part_of w (trace_in c ts))
    part_teaches ts c o = tells w ts c (law_of_state L enough c o).1.staffed

    -- a turn in which it takes part
    pub turn_teaches : (c : Configuration) → IsOrdered L c → (t : ℕ × Event) → takes_part w t.0 t.1 ≡ true
        → refused_in c t.0 t.1 ≡ None → of (next_in c t).state w ≡ learn w (of c.state w) t.1 (reply_of c.state t.0 t.1)
    turn_teaches c o t takes is = ap (λ (s : State). of s w) (next_state w c t is)
        ∙ partaking c.state (law_of_state L enough c o).1.staffed t.0 w t.1
        (allowed c.state t.0 t.1 (allowed_by_state c t.0 t.1 is)) takes

  -- ---- what no entry of a part is, none of the log is

  pub none_of_log : (is_such : Entry → Bool) (turns : List Turn) → list_any is_such (part_of w turns) ≡ false
      → list_any is_such (log_of w turns) ≡ false
  none_of_log is_such [] none = refl
  none_of_log is_such (t ∷ ts) none = go (t.worker == w) (is_leaver w t.event) t.outcome none (none_of_log is_such ts)
    where
      go : (a b : Bool) (o : Result Reply Refused) → list_any is_such
          (cond (a || b) (logged_by (record { worker = t.worker; event = t.event; outcome = o })) [] ++ part_of w ts)
          ≡ false
          → (list_any is_such (part_of w ts) ≡ false → list_any is_such (log_of w ts) ≡ false)
          → list_any is_such (cond a (logged_by (record { worker = t.worker; event = t.event; outcome = o })) []
          ++ log_of w ts) ≡ false
      go true b (Ok r) none rest =
          let parts = or_parts (is_such (t.event, r)) (list_any is_such (part_of w ts)) none in
          ap (λ (x : Bool). x || list_any is_such (log_of w ts)) parts.0 ∙ rest parts.1
      go true b (Err x) none rest = rest none
      go false true (Ok r) none rest = rest (or_parts (is_such (t.event, r)) (list_any is_such (part_of w ts)) none).1
      go false true (Err x) none rest = rest none
      go false false o none rest = rest none

-- ---- numbers of turns

pub number-append : (is_such : Turn → Bool) (xs ys : List Turn)
    → number_of is_such (xs ++ ys) ≡ number_of is_such xs + number_of is_such ys
number-append is_such [] ys = omega arith
number-append is_such (t ∷ xs) ys = let rest = number-append is_such xs ys in omega (arith, rest)

abbrev pub turn_in : Configuration → ℕ × Event → Turn
turn_in c t = record { worker = t.0; event = t.1; outcome = outcome_in c t }

-- of a run that goes by a turn
pub number_split : (is_such : Turn → Bool) (c : Configuration) (xs : List (ℕ × Event)) (t : ℕ × Event)
    (ys : List (ℕ × Event)) → number_of is_such (trace_in c (xs ++ t ∷ ys))
    ≡ number_of is_such (trace_in c xs) + (cond (is_such (turn_in (after_in c xs) t)) 1 0
    + number_of is_such (trace_in (next_in (after_in c xs) t) ys))
unfolding trace_in
number_split is_such c xs t ys = ap (number_of is_such) (trace_in-append c xs (t ∷ ys))
    ∙ number-append is_such (trace_in c xs) (trace_in (after_in c xs) (t ∷ ys))
