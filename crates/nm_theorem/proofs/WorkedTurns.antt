-- The worked schedule, by computation and by the laws of every run.
use Rattle.std.proofs.Common.{◌≡◌, zero, suc, inl, true, false, List, [], ◌∷◌, ◌++◌, map, refl, sym, ap, subst, ◌∙◌, arith, true≢false}
use Rattle.std.specs.Prelude.{ℕ, Bool, ◌-◌, ◌^◌, nat_le, take, drop, Contains, Ok, All, Some, None}
use Rattle.std.specs.List.{list_all}
use Rattle.std.proofs.lemmas.Bool.{leb-true, and_parts}
use Rattle.nm_edge.specs.Layouts.{IsLayout}
use Rattle.nm_edge.specs.declared.edge.Side.TheVariants.{Left, Right}
use Rattle.nm_edge.specs.declared.node.NodeId.{NodeId}
use Rattle.nm_model.specs.declared.event.Op.{Op}
use Rattle.nm_model.specs.declared.event.Op.TheVariants.{Insert, Delete}
use Rattle.nm_model.specs.declared.event.Event.{Event}
use Rattle.nm_model.specs.declared.event.Event.TheVariants.{Sight, SightFor, LeaveWith}
use Rattle.nm_model.specs.declared.reply.Reply.TheVariants.{Pinned, EdgeIs}
use Rattle.nm_model.specs.declared.trace.Turn.{Turn}
use Rattle.nm_model.specs.Shorthands.{e, n}
use Rattle.nm_model.specs.Searches.{searched}
use Rattle.nm_model.specs.Step.{refusal, reply, write}
use Rattle.nm_model.specs.Learning.{learn}
use Rattle.nm_model.specs.Runs.{refused, applied}
use Rattle.nm_model.specs.Ordered.{ordered, HasKey, trace_in, turn_of, outcome_in, next_in, refused_in, applied_in}
use Rattle.nm_model.specs.Headline.{words_after, CutsItsNodes, IsPinned, Headline, WasTold}
use Rattle.std.proofs.lemmas.List.{same_from_push}
use Rattle.std.proofs.lemmas.Option.{same_Some}
use Rattle.nm_model.specs.Histories.{Called, call_begun, answer_turn, AnswerStands}
use Rattle.nm_theorem.proofs.StandingAnswers.{answers_stand}
use Rattle.nm_theorem.specs.Worked.{before_pin, inserted, deleted_too, layout, inserting, deleting, cut, waiting, leaving, free_turn, claim_turn, before, worked_turns, before_look, look_turn, IsWorked, AreWrong, before_told, told_turn, since_told}
use Rattle.nm_theorem.proofs.HeadlineOfRuns.{headline}

is_run : trace_in (ordered layout) (map turn_of worked_turns) ≡ worked_turns
unfolding trace_in outcome_in next_in refused_in applied_in refused applied refusal reply write learn searched
is_run = refl

-- ---- its keys

is_keyed : Event → Bool
is_keyed (SightFor op k) = nat_le k (2 ^ 64 - 4)
is_keyed _ = true

keyed : (e : Event) → is_keyed e ≡ true → HasKey e
unfolding is_keyed
keyed (SightFor op k) is = leb-true k (2 ^ 64 - 4) is
keyed e is = tt

each_key : (ts : List Turn) → list_all (λ (t : Turn). is_keyed t.event) ts ≡ true
    → All (λ t. HasKey t.1) (map turn_of ts)
each_key [] all i d below = absurd (omega (arith, below))
each_key (t ∷ ts) all zero d below = keyed t.event
    (and_parts (is_keyed t.event) (list_all (λ (u : Turn). is_keyed u.event) ts) all).0
each_key (t ∷ ts) all (suc i) d below = each_key ts
    (and_parts (is_keyed t.event) (list_all (λ (u : Turn). is_keyed u.event) ts) all).1 i d (omega (arith, below))

fits : IsLayout layout
fits = record { least = omega arith; most = omega arith; some = omega arith; few = omega arith; gaps = inl refl }

keys : All (λ t. HasKey t.1) (map turn_of worked_turns)
unfolding is_keyed
keys = each_key worked_turns refl

has_headline : Headline layout worked_turns
has_headline = subst (Headline layout) is_run (headline layout fits true (map turn_of worked_turns) keys)

-- ---- what is so

cut_just : CutsItsNodes (words_after layout before) cut
cut_just = has_headline.cuts before ((waiting ++ leaving) ++ free_turn ∷ claim_turn ∷ []) cut refl

never : {A : Type 0} → false ≡ true → A
never e = absurd (true≢false (sym e))

remover : IsPinned 0 before
remover = record {
  before = take 22 before;
  sight =
      record { worker = 0; event = SightFor Delete 10; outcome = Ok (Pinned 0) };
  since = drop 23 before;
  are = refl;
  own = refl;
  pins = refl;
  stays = λ left. never left;
}

reader : IsPinned 1 before
reader = record {
  before = take 2 before;
  sight = record { worker = 1; event = Sight; outcome = Ok (Pinned 0) };
  since = drop 3 before;
  are = refl;
  own = refl;
  pins = refl;
  stays = λ left. never left;
}

part_runs : (ts : List Turn) → trace_in (ordered layout) (map turn_of ts) ≡ ts
    → list_all (λ (t : Turn). is_keyed t.event) ts ≡ true
    → (was since : List Turn) (w pin : ℕ) (op : Op) (k : ℕ) (answer : Bool)
    → ts ≡ (was ++ since) ++ answer_turn w answer ∷ [] → call_begun w was ≡ None
    → call_begun w (was ++ since) ≡ Some (record { pin = pin; op = op; key = k })
    → AnswerStands layout was ts w op k answer
part_runs ts is keyed was since w pin op k answer are none call =
    subst (λ (us : List Turn). AnswerStands layout was us w op k answer) is
    (answers_stand layout fits (map turn_of ts) (each_key ts keyed) was since w pin op k answer (is ∙ are) none call)

inserted_runs : trace_in (ordered layout) (map turn_of inserted) ≡ inserted
unfolding trace_in outcome_in next_in refused_in applied_in refused applied refusal reply write learn searched
inserted_runs = refl

deleted_runs : trace_in (ordered layout) (map turn_of deleted_too) ≡ deleted_too
unfolding trace_in outcome_in next_in refused_in applied_in refused applied refusal reply write learn searched
deleted_runs = refl

insert_stands : AnswerStands layout before_pin inserted 0 Insert 10 true
unfolding is_keyed
insert_stands = part_runs inserted inserted_runs refl before_pin (drop 5 inserting) 0 5 Insert 10 true refl refl refl

delete_stands : AnswerStands layout inserted deleted_too 0 Delete 10 true
unfolding is_keyed
delete_stands = part_runs deleted_too deleted_runs refl inserted (drop 1 deleting ++ cut ∷ take 1 waiting) 0 22
    Delete 10 true refl refl refl

reader_then : IsPinned 1 before_told
reader_then = record {
  before = take 2 before_told;
  sight =
      record { worker = 1; event = Sight; outcome = Ok (Pinned 0) };
  since = drop 3 before_told;
  are = refl;
  own =
      refl;
  pins = refl;
  stays = λ left. never left;
}

abbrev was_told : WasTold layout 1 6 (before_told ++ told_turn ∷ since_told)
was_told = record {
  before = before_told;
  told = told_turn;
  since = since_told;
  are = refl;
  own = refl;
  pinned = reader_then;
  from = 2;
  edge = refl;
  free = refl;
  stays = λ left. never left;
}

pub is_worked : IsWorked
is_worked = record {
  is_run = is_run;
  cuts = λ x is. (cut_just.just x).0 is;
  cut_6 = (cut_just.just 6).1 (0, omega arith, refl);
  all = refl;
  freed = refl;
  waits = refl;
  remover = remover;
  reader = reader;
  left = refl;
  stayed = λ left. never left;
  told = has_headline.told before_look (cut ∷ ((waiting ++ leaving) ++ free_turn ∷ claim_turn ∷ [])) look_turn
      (EdgeIs (e 7 true false)) 6 refl refl (0, omega arith, refl) (omega arith) refl;
  still = has_headline.stays (before_told ++ told_turn ∷ since_told) (leaving ++ free_turn ∷ claim_turn ∷ []) refl 1
      6 was_told;
  on_path = refl;
  in_pool = refl;
  waiting_there = refl;
  in_hands = refl;
  let_go = λ has. never has;
  inserts = λ acts h. h.answered inserting (drop 1 deleting ++ cut
      ∷ ((waiting ++ leaving) ++ free_turn ∷ claim_turn ∷ [])) 0 true (record { pin = 5; op = Insert; key = 10 }) refl
      refl;
  deletes = λ acts h. h.answered (before ++ cut ∷ take 1 waiting)
      (drop 2 waiting ++ (leaving ++ free_turn ∷ claim_turn ∷ [])) 0 true (record { pin = 22; op = Delete; key = 10 })
      refl refl;
  linked = λ acts h. h.links (take 19 inserting) (deleting ++ cut
      ∷ ((waiting ++ leaving) ++ free_turn ∷ claim_turn ∷ [])) 0 2 Left 3 6 (n 6 1) refl;
  insert_stands = insert_stands;
  delete_stands = delete_stands;
  deleted = λ acts h. h.cuts before ((waiting ++ leaving) ++ free_turn ∷ claim_turn ∷ []) cut
      (n 6 1 ∷ n 7 1 ∷ []) refl refl 2 Left 6 6 Right refl;
}

-- ---- what is wrong

in_cut : Contains (n 6 1 ∷ n 7 1 ∷ []) (n 6 1)
in_cut = (0, omega arith, refl)

in_free : Contains (n 6 1 ∷ []) (n 6 1)
in_free = (0, omega arith, refl)

some_slot : (x y : NodeId) → x.slot ≡ 7 → x ≡ y → y.slot ≡ 6 → ⊥
some_slot x y is same is' = let e = ap (λ (z : NodeId). z.slot) same in omega (arith, is, e, is')

no_node : (x : NodeId) (xs : List NodeId) → x ∷ xs ≡ [] → ⊥
no_node x xs e = cc

is_delete : Op → Bool
is_delete Delete = true
is_delete _ = false

same_first : (x y : NodeId) (xs ys : List NodeId) → x ∷ xs ≡ y ∷ ys → x ≡ y
same_first x y xs ys e = cc

-- what an answer that stands says of these turns: the last of them is that leave, and the call
-- before it that one
last_of : (was now before : List Turn) (t : Turn) (w : ℕ) (op : Op) (k : ℕ) (answer : Bool) → now ≡ before ++ t ∷ []
    → (s : AnswerStands layout was now w op k answer)
    → (t ≡ answer_turn w answer) × (call_begun w before ≡ Some (record { pin = s.pin; op = op; key = k }))
last_of was now before t w op k answer is s =
    let both = same_from_push before (was ++ s.since) t (answer_turn w answer) (sym is ∙ s.are) in
    (both.1, ap (call_begun w) both.0 ∙ s.call)

same_call : (c d : Called) → Some c ≡ Some d → c ≡ d
same_call c d e = same_Some c d e

true_first : (w v : ℕ) (a b : Bool) → answer_turn w a ≡ answer_turn v b → (w ≡ v) × (a ≡ b)
true_first w v a b e = (ap (λ (t : Turn). t.worker) e, ap (λ (t : Turn). answer_of t.event) e)
  where
    answer_of : Event → Bool
    answer_of (LeaveWith c) = c
    answer_of _ = true

pub are_wrong : AreWrong
unfolding is_delete
are_wrong = record {
  behind_pin = λ s.
      let l = last_of (take 6 inserting) inserted inserting (answer_turn 0 true) 0 Insert 10 true refl s in
      let p = ap (λ (c : Called). c.pin) (same_call (record { pin = 5; op = Insert; key = 10 })
      (record { pin = s.pin; op = Insert; key = 10 }) l.1) in let b = s.begins in absurd (omega (arith, p, b));
  turned = λ s. true≢false (true_first 0 0 true false
      (last_of before_pin inserted inserting (answer_turn 0 true) 0 Insert 10 false refl s).0).1;
  other_worker = λ s.
      let l = (true_first 0 1 true true (last_of before_pin inserted inserting (answer_turn 0 true) 1 Insert 10 true
      refl s).0).0 in absurd (omega (arith, l));
  other_key = λ s. let l = last_of before_pin inserted inserting (answer_turn 0 true) 0 Insert 11 true refl s in
      let k = ap (λ (c : Called). c.key) (same_call (record { pin = 5; op = Insert; key = 10 })
      (record { pin = s.pin; op = Insert; key = 11 }) l.1) in absurd (omega (arith, k));
  earlier = λ s.
      let l = last_of inserted deleted_too (before ++ cut ∷ take 1 waiting) (answer_turn 0 true) 0 Insert 10 true refl
      s in
      true≢false (ap (λ (c : Called). is_delete c.op)
      (same_call (record { pin = 22; op = Delete; key = 10 }) (record { pin = s.pin; op = Insert; key = 10 }) l.1));
  waits_first = λ says. some_slot (n 7 1) (n 6 1) refl
      (same_first (n 7 1) (n 6 1) (n 6 1 ∷ []) (n 7 1 ∷ []) (says 0)) refl;
  everybody = λ says. never (says before (waiting ++ leaving) (claim_turn ∷ []) cut free_turn (n 6 1) refl in_cut
      in_free 2);
  at_once = λ says. never (says before (waiting ++ leaving) (claim_turn ∷ []) cut free_turn (n 6 1) refl in_cut
      in_free 1 reader);
  nothing_waits = λ says. no_node (n 7 1) [] (says worked_turns [] 0 refl);
  nothing_cut = λ says. no_node (n 6 1) (n 7 1 ∷ [])
      (says before ((waiting ++ leaving) ++ free_turn ∷ claim_turn ∷ []) cut refl);
  stay = λ says. never (says (take 9 worked_turns) (drop 10 worked_turns) 0 6 refl);
  for_ever = λ says. true≢false (says before_told (look_turn ∷ cut
      ∷ ((waiting ++ leaving) ++ free_turn ∷ claim_turn ∷ [])) told_turn 2 6 refl refl refl reader_then).pooled;
}
