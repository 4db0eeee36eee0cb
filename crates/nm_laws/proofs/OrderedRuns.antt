-- What one run of any core keeps: a turn that is refused may be told as any other refused one, so
-- an ordered run is told as a plain run is.
use Rattle.std.proofs.Common.{◌≡◌, ℕ, zero, suc, ◌==◌, Bool, true, false, cond, ◌&&◌, ◌||◌, List, [], ◌∷◌, ◌++◌, length, take, refl, sym, ap, subst, ◌∙◌, arith}
use Rattle.std.specs.Prelude.{Option, Some, None, filter, Ok, Err}
use Rattle.std.specs.List.{list_any}
use Rattle.std.proofs.lemmas.Bool.{le-leb}
use Rattle.nm_edge.specs.declared.node.NodeId.{NodeId}
use Rattle.nm_model.specs.declared.event.Event.{Event}
use Rattle.nm_model.specs.declared.event.Event.TheVariants.{Sight, Leave, LeaveWith}
use Rattle.nm_model.specs.declared.reply.Reply.{Reply}
use Rattle.nm_model.specs.declared.reply.Reply.TheVariants.{Cut, Freed}
use Rattle.nm_model.specs.declared.reply.Refused.{Refused}
use Rattle.nm_model.specs.declared.reply.Refused.TheVariants.{NoWorker}
use Rattle.nm_model.specs.declared.trace.Turn.{Turn}
use Rattle.nm_model.specs.Runs.{State, of, refused, reply_of, applied, unless_refused, answered, next, outcome, after, trace}
use Rattle.nm_model.specs.Ordered.{Configuration, refused_in, next_in, outcome_in, after_in, trace_in, IsReached}
use Rattle.nm_model.specs.Laws.{nodes_cut_of, cuts_of, nodes_freed_of, freed_by, is_among, HasLeft}
use Rattle.nm_model.specs.Headline.{departs, leaves}
use Rattle.nm_model.specs.Traces.{IsLawfulRun}
use Rattle.nm_laws.proofs.LawfulRuns.{GraceInRun, grace, lawful_run}
use Rattle.nm_laws.proofs.Configurations.{refused_next, refused_outcome, allowed_state, allowed_outcome, state_outcome, reached_state}
use Rattle.nm_laws.proofs.Outcomes.{no_reply}

-- ---- traces that differ in their refused turns alone

data AlikeTurn (x y : Turn) : Type 0 where
  Same : x ≡ y → AlikeTurn x y
  BothRefused : (q r : Refused) → x.outcome ≡ Err q → y.outcome ≡ Err r → AlikeTurn x y

Alike : List Turn → List Turn → Type 0
Alike [] [] = Unit {0}
Alike [] (y ∷ ys) = ⊥
Alike (x ∷ xs) [] = ⊥
Alike (x ∷ xs) (y ∷ ys) = AlikeTurn x y × Alike xs ys

same_reply : (x y : Turn) (r : Reply) → AlikeTurn x y → y.outcome ≡ Ok r → x.outcome ≡ Ok r
same_reply x y r (Same e) is = ap (λ (t : Turn). t.outcome) e ∙ is
same_reply x y r (BothRefused p q a b) is = absurd (no_reply q r (sym b ∙ is))

same_length : (xs ys : List Turn) → Alike xs ys → length xs ≡ length ys
unfolding Alike
same_length [] [] a = refl
same_length [] (y ∷ ys) a = absurd a
same_length (x ∷ xs) [] a = absurd a
same_length (x ∷ xs) (y ∷ ys) a = ap (λ (n : ℕ). suc n) (same_length xs ys a.1)

alike_take : (i : ℕ) (xs ys : List Turn) → Alike xs ys → Alike (take i xs) (take i ys)
unfolding Alike
alike_take zero xs ys a = tt
alike_take (suc i) [] [] a = tt
alike_take (suc i) [] (y ∷ ys) a = absurd a
alike_take (suc i) (x ∷ xs) [] a = absurd a
alike_take (suc i) (x ∷ xs) (y ∷ ys) a = (a.0, alike_take i xs ys a.1)

-- a refused turn cuts nothing, whoever made it
cut_by_turn : (w : ℕ) (x y : Turn) → AlikeTurn x y
    → cond (x.worker == w) (nodes_cut_of x.outcome) [] ≡ cond (y.worker == w) (nodes_cut_of y.outcome) []
cut_by_turn w x y (Same e) = ap (λ (t : Turn). cond (t.worker == w) (nodes_cut_of t.outcome) []) e
cut_by_turn w x y (BothRefused q r a b) = rw (a, b) (nothing (x.worker == w) ∙ sym (nothing (y.worker == w)))
  where
    nothing : (b : Bool) → ◌≡◌ {A = List NodeId} (cond b [] []) []
    nothing true = refl
    nothing false = refl

same_cuts : (w : ℕ) (xs ys : List Turn) → Alike xs ys → cuts_of w xs ≡ cuts_of w ys
unfolding Alike
same_cuts w [] [] a = refl
same_cuts w [] (y ∷ ys) a = absurd a
same_cuts w (x ∷ xs) [] a = absurd a
same_cuts w (x ∷ xs) (y ∷ ys) a = λ i. cut_by_turn w x y a.0 i ++ same_cuts w xs ys a.1 i

-- nor does it free anything
same_freed : (x y : Turn) → AlikeTurn x y → nodes_freed_of x.outcome ≡ nodes_freed_of y.outcome
same_freed x y (Same e) = ap (λ (t : Turn). nodes_freed_of t.outcome) e
same_freed x y (BothRefused q r a b) = ap nodes_freed_of a ∙ sym (ap nodes_freed_of b)

same_frees : (xs ys : List Turn) → Alike xs ys → freed_by xs ≡ freed_by ys
unfolding Alike
same_frees [] [] a = refl
same_frees [] (y ∷ ys) a = absurd a
same_frees (x ∷ xs) [] a = absurd a
same_frees (x ∷ xs) (y ∷ ys) a = λ i. same_freed x y a.0 i ++ same_frees xs ys a.1 i

-- nor does it leave
pub none_departs : (e : Event) (q : Refused) → departs e (Err q) ≡ false
none_departs Leave q = refl
none_departs (LeaveWith answer) q = refl
none_departs e q = refl

none_leaves : (w : ℕ) (t : Turn) (q : Refused) → t.outcome ≡ Err q → leaves w t ≡ false
none_leaves w t q is = ap (λ (b : Bool). (t.worker == w) && b) (ap (departs t.event) is ∙ none_departs t.event q)
    ∙ never (t.worker == w)
  where
    never : (b : Bool) → (b && false) ≡ false
    never true = refl
    never false = refl

same_leave : (w : ℕ) (x y : Turn) → AlikeTurn x y → leaves w x ≡ leaves w y
same_leave w x y (Same e) = ap (leaves w) e
same_leave w x y (BothRefused q r a b) = none_leaves w x q a ∙ sym (none_leaves w y r b)

same_leaves : (w : ℕ) (xs ys : List Turn) → Alike xs ys → list_any (leaves w) xs ≡ list_any (leaves w) ys
unfolding Alike
same_leaves w [] [] a = refl
same_leaves w [] (y ∷ ys) a = absurd a
same_leaves w (x ∷ xs) [] a = absurd a
same_leaves w (x ∷ xs) (y ∷ ys) a = λ i. same_leave w x y a.0 i || same_leaves w xs ys a.1 i

left_alike : (w : ℕ) (xs ys : List Turn) → Alike xs ys → HasLeft w xs → HasLeft w ys
left_alike w xs ys a left = sym (same_leaves w xs ys a) ∙ left

-- where the one is split, the other is too
record Split (xs first : List Turn) (turn : Turn) (rest : List Turn) : Type 0 where
  before : List Turn
  here : Turn
  behind : List Turn
  all : xs ≡ before ++ here ∷ behind
  alike_before : Alike before first
  alike_here : AlikeTurn here turn
  alike_behind : Alike behind rest

split_alike : (xs first : List Turn) (turn : Turn) (rest : List Turn) → Alike xs (first ++ turn ∷ rest)
    → Split xs first turn rest
unfolding Alike
split_alike [] [] turn rest a = absurd a
split_alike [] (y ∷ ys) turn rest a = absurd a
split_alike (x ∷ xs) [] turn rest a = record {
  before = [];
  here = x;
  behind = xs;
  all = refl;
  alike_before = tt;
  alike_here = a.0;
  alike_behind = a.1;
}
split_alike (x ∷ xs) (y ∷ ys) turn rest a =
    let s = split_alike xs ys turn rest a.1 in
    record {
      before = x ∷ s.before;
      here = s.here;
      behind = s.behind;
      all = ap (λ (zs : List Turn). x ∷ zs) s.all;
      alike_before = (a.0, s.alike_before);
      alike_here = s.alike_here;
      alike_behind = s.alike_behind;
    }

module _ (states : ℕ → State) (xs ys : List Turn) (a : Alike xs ys) where
  lawful_alike : IsLawfulRun states xs → IsLawfulRun states ys
  lawful_alike law = record {
    each = law.each;
    growing = λ i w v origin l m is is'. law.growing i w v origin l m is is'
        ∙ ap (λ (ns : List NodeId). l.retired ++ ns) (same_cuts origin (take i xs) (take i ys) (alike_take i xs ys a));
    freed = λ i w v origin l m is is'. law.freed i w v origin l m is is'
        ∙ ap (λ (ns : List NodeId). l.freed ++ filter (is_among m.retired) ns)
        (same_frees (take i xs) (take i ys) (alike_take i xs ys a));
  }

  grace_alike : GraceInRun states xs → GraceInRun states ys
  grace_alike law first between rest cut free ns n w e all cuts there frees pin =
      let s = split_alike xs first cut (between ++ free ∷ rest) (subst (λ (zs : List Turn). Alike xs zs) all a) in
      let t = split_alike s.behind between free rest s.alike_behind in
      left_alike w t.before between t.alike_before
      (law s.before t.before t.behind s.here t.here ns n w e
      (s.all ∙ ap (λ (zs : List Turn). s.before ++ s.here ∷ zs) t.all)
      (same_reply s.here cut (Cut ns) s.alike_here cuts) there (same_reply t.here free (Freed n) t.alike_here frees)
      (subst (λ (i : ℕ). (of (states i) w).brief.pin ≡ Some e) (sym (same_length s.before first s.alike_before)) pin))

-- ---- an ordered run beside a plain one

-- an event of a worker that is not there
abbrev nobodys : State → ℕ × Event
nobodys s = (s.layout.workers, Sight)

nobody_refused : (s : State) → refused s s.layout.workers Sight ≡ Some NoWorker
unfolding refused
nobody_refused s = rw (le-leb s.layout.workers s.layout.workers (omega arith)) refl

nobody_next : (s : State) → next s (nobodys s) ≡ s
unfolding next
nobody_next s = ap (λ (o : Option Refused). unless_refused o s (applied s s.layout.workers Sight)) (nobody_refused s)

nobody_outcome : (s : State) → outcome s (nobodys s) ≡ Err NoWorker
unfolding outcome
nobody_outcome s = ap (λ (o : Option Refused). answered o (reply_of s s.layout.workers Sight)) (nobody_refused s)

-- what stands for a turn: one of nobody, where it is refused
abbrev stands_for : Option Refused → State → ℕ × Event → ℕ × Event
stands_for None s t = t
stands_for (Some r) s t = nobodys s

abbrev stand_in : Configuration → ℕ × Event → ℕ × Event
stand_in c t = stands_for (refused_in c t.0 t.1) c.state t

stand_ins : Configuration → List (ℕ × Event) → List (ℕ × Event)
stand_ins c [] = []
stand_ins c (t ∷ ts) = stand_in c t ∷ stand_ins (next_in c t) ts

-- what is left, and how it is told
record StandsIn (c : Configuration) (t x : ℕ × Event) : Type 0 where
  leads : next c.state x ≡ (next_in c t).state
  is_told : AlikeTurn (record { worker = x.0; event = x.1; outcome = outcome c.state x })
      (record { worker = t.0; event = t.1; outcome = outcome_in c t })

stands_in : (c : Configuration) (t : ℕ × Event) → StandsIn c t (stand_in c t)
stands_in c t = go (refused_in c t.0 t.1) refl
  where
    go : (o : Option Refused) → refused_in c t.0 t.1 ≡ o → StandsIn c t (stands_for (refused_in c t.0 t.1) c.state t)
    go (Some r) is = rw is (record {
      leads = nobody_next c.state ∙ ap (λ (d : Configuration). d.state) (sym (refused_next c t r is));
      is_told = BothRefused NoWorker r (nobody_outcome c.state) (refused_outcome c t r is);
    })
    go None is = rw is (record {
      leads = allowed_state c t is;
      is_told = Same (λ i. record {
        worker = t.0;
        event = t.1;
        outcome =
            (state_outcome c t is ∙ sym (allowed_outcome c t is)) i;
      });
    })

same_states : (i : ℕ) (c : Configuration) (ts : List (ℕ × Event))
    → after c.state (take i (stand_ins c ts)) ≡ (after_in c (take i ts)).state
unfolding after after_in stand_ins
same_states zero c ts = refl
same_states (suc i) c [] = refl
same_states (suc i) c (t ∷ ts) = ap (λ (s : State). after s (take i (stand_ins (next_in c t) ts)))
    (stands_in c t).leads ∙ same_states i (next_in c t) ts

alike_traces : (c : Configuration) (ts : List (ℕ × Event)) → Alike (trace c.state (stand_ins c ts)) (trace_in c ts)
unfolding trace trace_in stand_ins Alike
alike_traces c [] = tt
alike_traces c (t ∷ ts) = (
  (stands_in c t).is_told,
  subst
      (λ (s : State). Alike (trace s (stand_ins (next_in c t) ts)) (trace_in (next_in c t) ts))
      (sym (stands_in c t).leads) (alike_traces (next_in c t) ts),
)

pub lawful_run_in : (c : Configuration) → IsReached c → (ts : List (ℕ × Event))
    → IsLawfulRun (λ i. (after_in c (take i ts)).state) (trace_in c ts)
lawful_run_in c r ts = subst (λ (states : ℕ → State). IsLawfulRun states (trace_in c ts)) (λ j i. same_states i c ts j)
    (lawful_alike (λ i. after c.state (take i (stand_ins c ts))) (trace c.state (stand_ins c ts)) (trace_in c ts)
    (alike_traces c ts) (lawful_run c.state (reached_state c r) (stand_ins c ts)))

pub grace_in : (c : Configuration) → IsReached c → (ts : List (ℕ × Event))
    → GraceInRun (λ i. (after_in c (take i ts)).state) (trace_in c ts)
grace_in c r ts = subst (λ (states : ℕ → State). GraceInRun states (trace_in c ts)) (λ j i. same_states i c ts j)
    (grace_alike (λ i. after c.state (take i (stand_ins c ts))) (trace c.state (stand_ins c ts)) (trace_in c ts)
    (alike_traces c ts) (grace c.state (reached_state c r) (stand_ins c ts)))
