-- The tries that a worker loses, counted: as many changes of others, which flags and links pay.
use Rattle.std.proofs.Common.{◌≡◌, ℕ, suc, ◌+◌, ◌*◌, ◌≤◌, inl, inr, ◌⊎◌, ◌==◌, Bool, true, false, cond, not, ◌&&◌, ◌||◌, List, [], ◌∷◌, ◌++◌, append_assoc, refl, sym, ap, subst, ◌∙◌, arith, true≢false}
use Rattle.std.specs.Prelude.{None, Result, Ok, All}
use Rattle.std.specs.List.{list_any}
use Rattle.std.proofs.lemmas.Bool.{and_parts, and_from, ne_eqb}
use Rattle.nm_edge.specs.Edges.{to}
use Rattle.nm_edge.specs.Layouts.{Layout}
use Rattle.nm_edge.specs.declared.edge.Side.{Side}
use Rattle.nm_model.specs.declared.event.Field.TheVariants.{Edge as EdgeOn}
use Rattle.nm_model.specs.declared.event.Event.{Event}
use Rattle.nm_model.specs.declared.event.Event.TheVariants.{Look, Link, Flag, Tag, Splice, Swap, Join}
use Rattle.nm_model.specs.declared.reply.Reply.{Reply}
use Rattle.nm_model.specs.declared.reply.Reply.TheVariants.{EdgeIs, Linked, Flagged, Was, Cut, Lost}
use Rattle.nm_model.specs.declared.reply.Refused.{Refused}
use Rattle.nm_model.specs.declared.trace.Turn.{Turn}
use Rattle.nm_model.specs.Memory.{edge}
use Rattle.nm_model.specs.Knowledge.{Knowledge, knows}
use Rattle.nm_model.specs.Learning.{learn}
use Rattle.nm_model.specs.Runs.{of, reply_of}
use Rattle.nm_model.specs.Walks.{Entry, begins_anew}
use Rattle.nm_model.specs.Ordered.{Configuration, ordered, refused_in, next_in, outcome_in, after_in, trace_in}
use Rattle.nm_laws.proofs.Configurations.{allowed_outcome}
use Rattle.nm_order.specs.Intervals.{HasKey}
use Rattle.nm_order.specs.Logs.{takes_part, part_of, known_after, known_by}
use Rattle.nm_order.proofs.LastEntries.{PartOf, part_or}
use Rattle.nm_order.proofs.LastEntries.PartOf.{Own, Resigns}
use Rattle.nm_order.proofs.OrderedLaws.{IsOrdered, ordered_next, each_ordered}
use Rattle.nm_order.proofs.PartsOfRuns.{logs_tell}
use Rattle.nm_order.proofs.RunExchanges.{first_keys}
use Rattle.nm_progress.specs.Changes.{is_bare, is_at, changes, is_change, IsChangedByAnother, Expects}
use Rattle.nm_progress.specs.Changes.Expects.{ToLink, ToFlag, ToCut, ToSwap}
use Rattle.nm_progress.specs.Moves.{number_of}
use Rattle.nm_progress.specs.Paid.{links_on, flags_on, cuts_on, tags_on, links_in, flags_in, cuts_in, tags_in}
use Rattle.nm_progress.specs.Tries.{changes_edge, changes_of_others, interferes, own_flags, HindrancesArePaid, HindrancesAreByOthers, reading, losing, LosesTries, OfEachPart, TriesAreLostToChanges, TriesArePaid, TriesArePaidEver}
use Rattle.nm_progress.specs.Tries.LosesTries.{NoTry, OneTry}
use Rattle.nm_progress.proofs.LostTries.{later_keys, never_lost, look_leaves, stays_or_changed}
use Rattle.nm_progress.proofs.SplicesPaid.{splices_are_paid, splices_are_paid_since}
use Rattle.nm_progress.proofs.TagsPaid.{tags_are_paid, tags_are_paid_since}
use Rattle.nm_progress.proofs.SplitTurns.{SplitTurn, split_turn, ordered_after, part_teaches, turn_teaches, none_of_log, turn_in, number_split}
use Rattle.nm_progress.proofs.Covers.{one_if}

-- ---- one change

-- a change of some edge is one of the kinds
pub change_is : (x : ℕ) (d : Side) (e : Event) (o : Result Reply Refused) → changes x d e o ≡ true
    → changes_edge e o ≡ true
change_is x d (Link p side leaf new) (Ok (Linked n)) is = refl
change_is x d (Flag p side leaf) (Ok (Flagged n)) is = refl
change_is x d (Tag p side) (Ok (Was e)) is = (and_parts (is_at x d p side) (is_bare e) is).1
change_is x d (Splice a side s p keep) (Ok (Cut ns)) is = refl
change_is x d (Swap p side leaf new) (Ok (Cut ns)) is = refl
change_is x d e o is = absurd (true≢false (sym is))

some_change : (w x v : ℕ) (d : Side) (c : Configuration) (ts : List (ℕ × Event)) → IsChangedByAnother c ts w x d v
    → 1 ≤ number_of (changes_of_others w) (trace_in c ts)
some_change w x v d c ts k =
    let parts = number_split (changes_of_others w) c k.before k.turn k.since in
    let one : cond (changes_of_others w (turn_in (after_in c k.before) k.turn)) 1 0
    ≡ 1 = ap one_if (and_from (not (k.turn.0 == w)) _ (ap not (ne_eqb k.turn.0 w k.another))
    (change_is x d k.turn.1 (outcome_in (after_in c k.before) k.turn) k.changes)) in
    let all = ap (λ (l : List (ℕ × Event)). number_of (changes_of_others w) (trace_in c l)) k.is_run in
    omega (arith, parts, one, all)

-- ---- lists

pub known_longer : (w : ℕ) (k : Knowledge) (xs ys : List Entry)
    → known_after w k (xs ++ ys) ≡ known_after w (known_after w k xs) ys
known_longer w k [] ys = refl
known_longer w k (x ∷ xs) ys = known_longer w (learn w k x.0 x.1) xs ys

-- a turn that takes part by a look or an exchange is the worker's own
pub own_turn : (w : ℕ) (c : Configuration) (t : ℕ × Event) (e : Event) (r : Reply) → takes_part w t.0 t.1 ≡ true
    → ◌≡◌ {A = Entry} (t.1, reply_of c.state t.0 t.1) (e, r) → ((v : ℕ) → e ≡ Join v → ⊥)
    → refused_in c t.0 t.1 ≡ None → ◌≡◌ {A = ℕ × Event} t (w, e) × (outcome_in c (w, e) ≡ Ok r)
own_turn w c t e r takes is alone allowed = by (part_or w t.0 t.1 takes)
  where
    event : t.1 ≡ e
    event = ap (λ (k : Entry). k.0) is

    by : PartOf w t.0 t.1 → ◌≡◌ {A = ℕ × Event} t (w, e) × (outcome_in c (w, e) ≡ Ok r)
    by (Resigns v at) = absurd (alone v (sym event ∙ at))
    by (Own own) = (turn, ap (outcome_in c) (sym turn) ∙ (allowed_outcome c t allowed ∙ ap (λ (k : Entry). Ok k.1) is))
      where
        turn : ◌≡◌ {A = ℕ × Event} t (w, e)
        turn = λ i. (own i, event i)

expects_no_join : (x : ℕ) (d : Side) (s : ℕ) (e : Event) → Expects x d s e → (v : ℕ) → e ≡ Join v → ⊥
expects_no_join x d s _ (ToLink new) v e = cc
expects_no_join x d s _ ToFlag v e = cc
expects_no_join x d s _ (ToCut p keep) v e = cc
expects_no_join x d s _ (ToSwap new) v e = cc

-- ---- over a part

module _ (L : Layout) (enough : 5 ≤ L.nodes) (w : ℕ) where
  pub lost_count : (so_far parts : List Entry) (n : ℕ) → LosesTries L w so_far parts n → (c : Configuration)
      → IsOrdered L c → of c.state w ≡ known_by L w so_far → (turns : List (ℕ × Event)) → All (λ t. HasKey t.1) turns
      → part_of w (trace_in c turns) ≡ parts → n ≤ number_of (changes_of_others w) (trace_in c turns)
  lost_count so_far _ _ NoTry c o knowing turns keys is = omega arith
  lost_count so_far _ _ (OneTry n x d s first between rest exchange found known expects stands own further) c o
      knowing turns keys is =
      let a = split_turn w turns c first (reading x d s) (between ++ losing exchange found ∷ rest) is in
      let b = split_turn w a.since (next_in (after_in c a.before) a.turn) between (losing exchange found) rest
      a.is_since in
      counted a b (lost_count _ rest n further (next_in (after_in (next_in (after_in c a.before) a.turn) b.before)
      b.turn))
    where
      module_keys : {ts : List (ℕ × Event)} (xs : List (ℕ × Event)) (t : ℕ × Event) (ys : List (ℕ × Event))
          → ts ≡ xs ++ t ∷ ys → All (λ t. HasKey t.1) ts
          → All (λ t. HasKey t.1) xs × HasKey t.1 × All (λ t. HasKey t.1) ys
      module_keys xs t ys run all =
          let here = subst (λ (l : List (ℕ × Event)). All (λ t. HasKey t.1) l) run all in
          let later = later_keys xs (t ∷ ys) here in
          (first_keys xs (t ∷ ys) here, later 0 t (omega arith), λ i e below. later (suc i) e (omega (arith, below)))

      counted : (a : SplitTurn w c turns first (reading x d s) (between ++ losing exchange found ∷ rest))
          → (b : SplitTurn w (next_in (after_in c a.before) a.turn) a.since between (losing exchange found) rest)
          → (IsOrdered L (next_in (after_in (next_in (after_in c a.before) a.turn) b.before) b.turn)
          → of (next_in (after_in (next_in (after_in c a.before) a.turn) b.before) b.turn).state w
          ≡ known_by L w (so_far ++ (first ++ reading x d s ∷ (between ++ losing exchange found ∷ [])))
          → (ts : List (ℕ × Event)) → All (λ t. HasKey t.1) ts
          → part_of w (trace_in (next_in (after_in (next_in (after_in c a.before) a.turn) b.before) b.turn) ts) ≡ rest
          → n ≤ number_of (changes_of_others w) (trace_in
          (next_in (after_in (next_in (after_in c a.before) a.turn) b.before) b.turn) ts))
          → suc n ≤ number_of (changes_of_others w) (trace_in c turns)
      counted a b below =
          let one = some_change w x s d c1 b.before changed in
          let more = below o2 knowing2 b.since keys_b.2 b.is_since in
          let whole = ap (λ (l : List (ℕ × Event)). number_of (changes_of_others w) (trace_in c l)) a.is_run in
          let parts = number_split (changes_of_others w) c a.before a.turn a.since in
          let whole' = ap (λ (l : List (ℕ × Event)). number_of (changes_of_others w) (trace_in c1 l)) b.is_run in
          let parts' = number_split (changes_of_others w) c1 b.before b.turn b.since in
          omega (arith, one, more, whole, parts, whole', parts')
        where
          c0 : Configuration
          c0 = after_in c a.before

          c1 : Configuration
          c1 = next_in (after_in c a.before) a.turn

          keys_a : All (λ t. HasKey t.1) a.before × HasKey a.turn.1 × All (λ t. HasKey t.1) a.since
          keys_a = module_keys a.before a.turn a.since a.is_run keys

          keys_b : All (λ t. HasKey t.1) b.before × HasKey b.turn.1 × All (λ t. HasKey t.1) b.since
          keys_b = module_keys b.before b.turn b.since b.is_run keys_a.2

          o0 : IsOrdered L (after_in c a.before)
          o0 = ordered_after w L enough a.before keys_a.0 c o

          o1 : IsOrdered L (next_in (after_in c a.before) a.turn)
          o1 = ordered_next L enough c0 a.turn keys_a.1 o0

          ob : IsOrdered L (after_in (next_in (after_in c a.before) a.turn) b.before)
          ob = ordered_after w L enough b.before keys_b.0 c1 o1

          o2 : IsOrdered L (next_in (after_in (next_in (after_in c a.before) a.turn) b.before) b.turn)
          o2 = ordered_next L enough (after_in c1 b.before) b.turn keys_b.1 ob

          knowing0 : of (after_in c a.before).state w ≡ known_by L w (so_far ++ first)
          knowing0 = part_teaches w L enough a.before c o
              ∙ (ap (known_after w (of c.state w)) a.is_before
              ∙ (ap (λ (k : Knowledge). known_after w k first) knowing ∙ sym (known_longer w _ so_far first)))

          look : (a.turn ≡ (w, Look x (EdgeOn d))) × (outcome_in (after_in c a.before) (w, Look x (EdgeOn d))
              ≡ Ok (EdgeIs (to s)))
          look = own_turn w c0 a.turn (Look x (EdgeOn d)) (EdgeIs (to s)) a.takes a.is_entry (λ v e. cc) a.is_allowed

          left : (knows (of (next_in (after_in c a.before) a.turn).state w) x ≡ true)
              × (edge (next_in (after_in c a.before) a.turn).state.memory x d ≡ to s)
          left = subst (λ (t : ℕ × Event). (knows (of (next_in (after_in c a.before) t).state w) x ≡ true)
              × (edge (next_in (after_in c a.before) t).state.memory x d ≡ to s)) (sym look.0)
              (look_leaves L enough c0 o0 w x d s (ap (λ (k : Knowledge). knows k x) knowing0 ∙ known) look.1)

          lost : (b.turn ≡ (w, exchange)) × (outcome_in (after_in (next_in (after_in c a.before) a.turn) b.before)
              (w, exchange) ≡ Ok (Lost found))
          lost = own_turn w (after_in c1 b.before) b.turn exchange (Lost found) b.takes b.is_entry
              (expects_no_join x d s exchange expects) b.is_allowed

          changed : IsChangedByAnother (next_in (after_in c a.before) a.turn) b.before w x d s
          changed = by (stays_or_changed L enough w x d s b.before keys_b.0 c1 o1 left.0 left.1
              (none_of_log w begins_anew (trace_in c1 b.before) (ap (list_any begins_anew) b.is_before ∙ stands))
              (none_of_log w (is_change x d) (trace_in c1 b.before) (ap (list_any (is_change x d)) b.is_before ∙ own)))
            where
              same_reply_of : (r : Reply) → b.turn.0 ≡ w → ◌≡◌ {A = Entry} (
                b.turn.1,
                reply_of (after_in (next_in (after_in c a.before) a.turn) b.before).state b.turn.0
                    b.turn.1,
              ) (exchange, r) → reply_of (after_in (next_in (after_in c a.before) a.turn) b.before).state w
                  exchange ≡ r
              same_reply_of r at e = (λ i. reply_of (after_in (next_in (after_in c a.before) a.turn) b.before).state
                  (sym at i) (sym (ap (λ (k : Entry). k.0) e) i)) ∙ ap (λ (k : Entry). k.1) e

              by : IsChangedByAnother (next_in (after_in c a.before) a.turn) b.before w x d s
                  ⊎ (edge (after_in (next_in (after_in c a.before) a.turn) b.before).state.memory x d ≡ to s)
                  → IsChangedByAnother (next_in (after_in c a.before) a.turn) b.before w x d s
              by (inl k) = k
              by (inr same) = absurd (never_lost (after_in c1 b.before).state w x d s exchange found expects same
                  (same_reply_of (Lost found) (ap (λ (t : ℕ × Event). t.0) lost.0) b.is_entry))

          -- what is known behind the exchange
          learns : (c : Configuration) (o : IsOrdered L c) (t : ℕ × Event) (e : Entry) → HasKey t.1
              → takes_part w t.0 t.1 ≡ true → refused_in c t.0 t.1 ≡ None → (t.1, reply_of c.state t.0 t.1) ≡ e
              → of (next_in c t).state w ≡ learn w (of c.state w) e.0 e.1
          learns c o t e has takes allowed is = turn_teaches w L enough c o t takes allowed
              ∙ ap (λ (k : Entry). learn w (of c.state w) k.0 k.1) is

          knowing2 : of (next_in (after_in (next_in (after_in c a.before) a.turn) b.before) b.turn).state w
              ≡ known_by L w (so_far ++ (first ++ reading x d s ∷ (between ++ losing exchange found ∷ [])))
          knowing2 =
              learns (after_in c1 b.before) ob b.turn (losing exchange found) keys_b.1 b.takes b.is_allowed b.is_entry
              ∙ (ap (λ (k : Knowledge). learn w k exchange (Lost found))
              (part_teaches w L enough b.before c1 o1 ∙ (ap
              (known_after w (of (next_in (after_in c a.before) a.turn).state w)) b.is_before
              ∙ ap (λ (k : Knowledge). known_after w k between)
              (learns c0 o0 a.turn (reading x d s) keys_a.1 a.takes a.is_allowed a.is_entry
              ∙ ap (λ (k : Knowledge). learn w k (Look x (EdgeOn d)) (EdgeIs (to s))) knowing0)))
              ∙ sym (ap (known_by L w) (sym (append_assoc so_far first
              (reading x d s ∷ (between ++ losing exchange found ∷ []))))
              ∙ (known_longer w _ (so_far ++ first) (reading x d s ∷ (between ++ losing exchange found ∷ []))
              ∙ known_longer w _ between (losing exchange found ∷ []))))

pub tries_are_lost_to_changes : OfEachPart TriesAreLostToChanges
tries_are_lost_to_changes L enough w worker past turns keys n loses =
    let before : All (λ t. HasKey t.1) past = first_keys past turns keys in
    lost_count L enough w _ _ n loses (after_in (ordered L) past) (each_ordered L enough past before)
    (logs_tell L past w worker) turns (later_keys past turns keys) refl

-- ---- what pays for them

-- what interferes a worker is a link, a flag, a splice or a tag
few_interfere : (w : ℕ) (turns : List Turn) → number_of (interferes w) turns
    ≤ links_in turns + (flags_in turns + (cuts_in turns + tags_in turns))
few_interfere w [] = omega arith
few_interfere w (t ∷ ts) = by (t.worker == w) (links_on t.event t.outcome) (flags_on t.event t.outcome)
    (cuts_on t.event t.outcome) (tags_on t.event t.outcome) (few_interfere w ts)
  where
    by : (o a b c d : Bool) → number_of (interferes w) ts ≤ links_in ts + (flags_in ts + (cuts_in ts + tags_in ts))
        → cond (cond o c (a || (b || (c || d)))) 1 0 + number_of (interferes w) ts
        ≤ (cond a 1 0 + links_in ts) + ((cond b 1 0 + flags_in ts)
        + ((cond c 1 0 + cuts_in ts) + (cond d 1 0 + tags_in ts)))
    by true a b true d rest = omega (arith, rest)
    by true a b false d rest = omega (arith, rest)
    by false true b c d rest = omega (arith, rest)
    by false false true c d rest = omega (arith, rest)
    by false false false true d rest = omega (arith, rest)
    by false false false false true rest = omega (arith, rest)
    by false false false false false rest = omega (arith, rest)

-- or a change of another, or an own splice
few_others : (w : ℕ) (turns : List Turn) → number_of (interferes w) turns + flags_in turns
    ≤ 2 * number_of (changes_of_others w) turns + own_flags w turns + cuts_in turns
few_others w [] = omega arith
few_others w (t ∷ ts) = by (t.worker == w) (links_on t.event t.outcome) (flags_on t.event t.outcome)
    (cuts_on t.event t.outcome) (tags_on t.event t.outcome) (few_others w ts)
  where
    by : (o a b c d : Bool) → number_of (interferes w) ts + flags_in ts
        ≤ 2 * number_of (changes_of_others w) ts + own_flags w ts + cuts_in ts
        → (cond (cond o c (a || (b || (c || d)))) 1 0 + number_of (interferes w) ts) + (cond b 1 0 + flags_in ts)
        ≤ 2 * (cond (not o && (a || (b || (c || d)))) 1 0 + number_of (changes_of_others w) ts)
        + (cond (o && b) 1 0 + own_flags w ts) + (cond c 1 0 + cuts_in ts)
    by true a true true d rest = omega (arith, rest)
    by true a true false d rest = omega (arith, rest)
    by true a false true d rest = omega (arith, rest)
    by true a false false d rest = omega (arith, rest)
    by false true true true d rest = omega (arith, rest)
    by false true true false d rest = omega (arith, rest)
    by false true false true d rest = omega (arith, rest)
    by false true false false d rest = omega (arith, rest)
    by false false true true d rest = omega (arith, rest)
    by false false true false d rest = omega (arith, rest)
    by false false false true d rest = omega (arith, rest)
    by false false false false true rest = omega (arith, rest)
    by false false false false false rest = omega (arith, rest)

-- a change of another interferes
pub others_interfere : (w : ℕ) (ts : List Turn) → number_of (changes_of_others w) ts ≤ number_of (interferes w) ts
others_interfere w [] = omega arith
others_interfere w (t ∷ ts) = by (t.worker == w) (links_on t.event t.outcome) (flags_on t.event t.outcome)
    (cuts_on t.event t.outcome) (tags_on t.event t.outcome) (others_interfere w ts)
  where
    by : (o a b c d : Bool) → number_of (changes_of_others w) ts ≤ number_of (interferes w) ts
        → cond (not o && (a || (b || (c || d)))) 1 0 + number_of (changes_of_others w) ts
        ≤ cond (cond o c (a || (b || (c || d)))) 1 0 + number_of (interferes w) ts
    by true a b true d rest = omega (arith, rest)
    by true a b false d rest = omega (arith, rest)
    by false true b c d rest = omega (arith, rest)
    by false false true c d rest = omega (arith, rest)
    by false false false true d rest = omega (arith, rest)
    by false false false false true rest = omega (arith, rest)
    by false false false false false rest = omega (arith, rest)

four : (w : ℕ) (turns : List Turn) → number_of (changes_of_others w) turns
    ≤ links_in turns + (flags_in turns + (cuts_in turns + tags_in turns))
four w turns = let some = others_interfere w turns in let few = few_interfere w turns in omega (arith, some, few)

pub tries_are_paid : OfEachPart TriesArePaid
tries_are_paid L enough w worker past turns keys n loses =
    let lost = tries_are_lost_to_changes L enough w worker past turns keys n loses in
    let kinds = four w (trace_in (after_in (ordered L) past) turns) in
    let splices = splices_are_paid_since L enough past turns keys in
    let tags = tags_are_paid_since L enough past turns keys in
    omega (arith, lost, kinds, splices, tags)

pub tries_are_paid_ever : TriesArePaidEver
unfolding after_in trace_in
tries_are_paid_ever L enough w worker turns keys n loses =
    let lost = tries_are_lost_to_changes L enough w worker [] turns keys n loses in
    let kinds = four w (trace_in (ordered L) turns) in
    let splices = splices_are_paid L enough turns keys in
    let tags = tags_are_paid L enough turns keys in
    omega (arith, lost, kinds, splices, tags)

pub hindrances_are_paid : HindrancesArePaid
hindrances_are_paid L enough w past turns keys =
    let kinds = few_interfere w (trace_in (after_in (ordered L) past) turns) in
    let splices = splices_are_paid_since L enough past turns keys in
    let tags = tags_are_paid_since L enough past turns keys in
    omega (arith, kinds, splices, tags)

pub hindrances_are_by_others : HindrancesAreByOthers
hindrances_are_by_others L enough w past turns keys =
    let few = few_others w (trace_in (after_in (ordered L) past) turns) in
    let splices = splices_are_paid_since L enough past turns keys in
    omega (arith, few, splices)
