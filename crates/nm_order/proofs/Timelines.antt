-- Acts that go along a run: at each moment calls that change nothing and that the set answers so
-- then, and at each turn the changes that it makes.
use Rattle.std.proofs.Common.{◌≡◌, ℕ, ◌+◌, ◌<◌, ◌≤◌, ◌⊎◌, inl, inr, Bool, true, false, not, List, [], ◌∷◌, ◌++◌, append_assoc, append-nil, length, map, sym, ap, subst, ◌∙◌, arith, true≢false}
use Rattle.std.specs.Prelude.{◌↔◌, Some, Ok, Contains}
use Rattle.nm_model.specs.declared.reply.Reply.{Reply}
use Rattle.nm_order.specs.Removals.{is_splice}
use Rattle.nm_order.specs.Exchanges.{is_won_link}
use Rattle.nm_order.proofs.OwnTurns.{own_search}
use Rattle.nm_edge.specs.declared.node.NodeId.{NodeId}
use Rattle.nm_model.specs.declared.reply.Reply.TheVariants.{Cut}
use Rattle.nm_model.specs.Laws.{slots_of}
use Rattle.std.proofs.lemmas.Bool.{cases_lt}
use Rattle.nm_edge.specs.Keys.{IsKey}
use Rattle.nm_model.specs.declared.event.Op.{Op}
use Rattle.nm_model.specs.declared.event.Op.TheVariants.{Has, Insert, Delete}
use Rattle.nm_model.specs.declared.event.Event.{Event}
use Rattle.nm_model.specs.Ordered.{Configuration, next_in, outcome_in, after_in}
use Rattle.nm_model.specs.Acts.{InSet, Gives, Act, IsAmong, changed, Replays, leaf_keys}
use Rattle.nm_order.specs.Intervals.{key}
use Rattle.nm_order.specs.Legal.{changes}
use Rattle.nm_order.specs.History.{ComesNext, InOrderOfMoments}

-- ---- replaying

abbrev pub Alike : (ℕ → Type 0) → (ℕ → Type 0) → Type 0
Alike S T = (k : ℕ) → IsKey k → S k ↔ T k

pub alike_sym : (S T : ℕ → Type 0) → Alike S T → Alike T S
alike_sym S T a k small = ((a k small).1, (a k small).0)

pub alike_join : (S T U : ℕ → Type 0) → Alike S T → Alike T U → Alike S U
alike_join S T U a b k small = ((λ s. (b k small).0 ((a k small).0 s)), (λ u. (a k small).1 ((b k small).1 u)))

gives_alike : (S T : ℕ → Type 0) (op : Op) (k : ℕ) (answer : Bool) → S k ↔ T k → Gives S op k answer
    → Gives T op k answer
gives_alike S T Has k true a g = a.0 g
gives_alike S T Has k false a g = λ t. g (a.1 t)
gives_alike S T Insert k true a g = λ t. g (a.1 t)
gives_alike S T Insert k false a g = a.0 g
gives_alike S T Delete k true a g = a.0 g
gives_alike S T Delete k false a g = λ t. g (a.1 t)

changed_alike : (S T : ℕ → Type 0) (op : Op) (k : ℕ) (answer : Bool) → Alike S T
    → Alike (changed S op k answer) (changed T op k answer)
changed_alike S T Has k answer a j small = a j small
changed_alike S T Insert k true a j small = (
  (λ s. elim s [ inl x ↦ inl ((a j small).0 x) | inr y ↦ inr y ]),
  (λ s. elim s [ inl x ↦ inl ((a j small).1 x) | inr y ↦ inr y ]),
)
changed_alike S T Insert k false a j small = a j small
changed_alike S T Delete k true a j small = ((λ s. ((a j small).0 s.0, s.1)), (λ s. ((a j small).1 s.0, s.1)))
changed_alike S T Delete k false a j small = a j small

pub replays_from : (S T : ℕ → Type 0) (acts : List Act) (U : ℕ → Type 0) → Alike S T → Replays S acts U
    → Replays T acts U
replays_from S T [] U a r = alike_join T S U (alike_sym S T a) r
replays_from S T (x ∷ acts) U a r = (
  r.0,
  gives_alike S T x.op x.key x.answer (a x.key r.0) r.1,
  replays_from
      (changed S x.op x.key x.answer) (changed T x.op x.key x.answer) acts U (changed_alike S T x.op x.key x.answer a)
      r.2,
)

pub replays_to : (S T : ℕ → Type 0) (acts : List Act) (U : ℕ → Type 0) → Alike T U → Replays S acts T → Replays S acts U
replays_to S T [] U a r = alike_join S T U r a
replays_to S T (x ∷ acts) U a r = (r.0, r.1, replays_to (changed S x.op x.key x.answer) T acts U a r.2)

pub replays_join : (S T : ℕ → Type 0) (xs ys : List Act) (U : ℕ → Type 0) → Replays S xs T → Replays T ys U
    → Replays S (xs ++ ys) U
replays_join S T [] ys U r q = replays_from T S ys U (alike_sym S T r) q
replays_join S T (x ∷ xs) ys U r q = (r.0, r.1, replays_join (changed S x.op x.key x.answer) T xs ys U r.2 q)

-- a call that changes nothing
unchanged : (S : ℕ → Type 0) (op : Op) (k : ℕ) (answer : Bool) → changes op answer ≡ false
    → Alike (changed S op k answer) S
unchanged S Has k answer plain j small = ((λ s. s), (λ s. s))
unchanged S Insert k true plain j small = absurd (true≢false plain)
unchanged S Insert k false plain j small = ((λ s. s), (λ s. s))
unchanged S Delete k true plain j small = absurd (true≢false plain)
unchanged S Delete k false plain j small = ((λ s. s), (λ s. s))

-- ---- along a run

-- calls at a moment that change nothing, and that the set answers so
abbrev pub AllQuiet : Configuration → ℕ → List Act → Type 0
AllQuiet c m [] = Unit {0}
AllQuiet c m (a ∷ acts) = (a.moment ≡ m) × IsKey a.key × (changes a.op a.answer ≡ false)
    × Gives (InSet c.state.memory) a.op a.key a.answer × AllQuiet c m acts

-- calls at a moment that change the set
abbrev pub AllAt : ℕ → List Act → Type 0
AllAt m [] = Unit {0}
AllAt m (a ∷ acts) = (a.moment ≡ m) × (changes a.op a.answer ≡ true) × AllAt m acts

-- the changes of one turn
pub record TurnChanges (c : Configuration) (t : ℕ × Event) (m : ℕ) (acts : List Act) : Type 0 where
  pub at : AllAt m acts
  pub replays : Replays (InSet c.state.memory) acts (InSet (next_in c t).state.memory)
  pub cut : (ns : List NodeId) → outcome_in c t ≡ Ok (Cut ns) → is_splice t.1 ≡ true
      → map (λ a. a.key) acts ≡ leaf_keys c.state.memory (slots_of ns)
  pub owner : (ns : List NodeId) → outcome_in c t ≡ Ok (Cut ns) → is_splice t.1 ≡ true → (a : Act) → IsAmong acts a
      → (n : NodeId) × Contains ns n × ((own_search c a.worker).flagged ≡ Some n)
      × (key c.state.memory n.slot ≡ a.key) × (a.op ≡ Delete) × (a.answer ≡ true)
  pub link : (k : ℕ) → (own_search c t.0).call ≡ Some (record { op = Insert; key = k }) → (q : Reply)
      → outcome_in c t ≡ Ok q → is_won_link (t.1, q) ≡ true
      → (a : Act) × (acts ≡ a ∷ []) × (a.key ≡ k) × (a.worker ≡ t.0) × (a.op ≡ Insert) × (a.answer ≡ true)

pub record Goes (c : Configuration) (t : ℕ × Event) (m : ℕ) (acts : List Act) (Later : List Act → Type 0) : Type 0 where
  pub reads : List Act
  pub made : List Act
  pub later : List Act
  pub are : acts ≡ reads ++ (made ++ later)
  pub quiet : AllQuiet c m reads
  pub turn : TurnChanges c t (m + 1) made
  pub goes : Later later

abbrev pub Follows : Configuration → List (ℕ × Event) → ℕ → List Act → Type 0
Follows c [] m acts = AllQuiet c m acts
Follows c (t ∷ ts) m acts = Goes c t m acts (Follows (next_in c t) ts (m + 1))

-- ---- one turn more

pub follows_more : (c : Configuration) (ts : List (ℕ × Event)) (t : ℕ × Event) (m : ℕ) (acts made : List Act)
    → Follows c ts m acts → TurnChanges (after_in c ts) t (m + length ts + 1) made
    → Follows c (ts ++ t ∷ []) m (acts ++ made)
unfolding after_in
follows_more c [] t m acts made f changes = record {
  reads = acts;
  made = made;
  later = [];
  are = ap (λ (l : List Act). acts ++ l) (sym (append-nil made));
  quiet = f;
  turn = subst (λ (n : ℕ). TurnChanges c t n made) (omega arith) changes;
  goes = tt;
}
follows_more c (s ∷ ts) t m acts made f changes = record {
  reads = f.reads;
  made = f.made;
  later = f.later ++ made;
  are = ap (λ (l : List Act). l ++ made) f.are ∙ (append_assoc f.reads (f.made ++ f.later) made
      ∙ ap (λ (l : List Act). f.reads ++ l) (append_assoc f.made f.later made));
  quiet = f.quiet;
  turn = f.turn;
  goes = follows_more (next_in c s) ts t (m + 1) f.later made f.goes
      (subst (λ (n : ℕ). TurnChanges (after_in (next_in c s) ts) t n made) (omega arith) changes);
}

-- ---- a call that changes nothing is put in at its moment

pub record PutIn (c : Configuration) (ts : List (ℕ × Event)) (m : ℕ) (acts : List Act) (a : Act) : Type 0 where
  pub before : List Act
  pub behind : List Act
  pub are : acts ≡ before ++ behind
  pub follows : Follows c ts m (before ++ a ∷ behind)

quiet_more : (c : Configuration) (m : ℕ) (acts : List Act) (a : Act) → AllQuiet c m acts → a.moment ≡ m → IsKey a.key
    → changes a.op a.answer ≡ false → Gives (InSet c.state.memory) a.op a.key a.answer → AllQuiet c m (acts ++ a ∷ [])
quiet_more c m [] a q is small plain gives = (is, small, plain, gives, tt)
quiet_more c m (x ∷ acts) a q is small plain gives =
    (q.0, q.1, q.2, q.3, quiet_more c m acts a q.4 is small plain gives)

pub put_in : (c : Configuration) (before since : List (ℕ × Event)) (m : ℕ) (acts : List Act) (a : Act)
    → Follows c (before ++ since) m acts → a.moment ≡ m + length before → IsKey a.key → changes a.op a.answer ≡ false
    → Gives (InSet (after_in c before).state.memory) a.op a.key a.answer
    → PutIn c (before ++ since) m acts a
unfolding after_in
put_in c [] [] m acts a f is small plain gives =
    record {
      before = acts;
      behind = [];
      are = sym (append-nil acts);
      follows = quiet_more c m acts a f
          (is ∙ omega arith) small plain gives;
    }
put_in c [] (t ∷ since) m acts a f is small plain gives = record {
  before = f.reads;
  behind = f.made ++ f.later;
  are = f.are;
  follows = record {
    reads = f.reads ++ a ∷ [];
    made = f.made;
    later = f.later;
    are = sym (append_assoc f.reads (a ∷ []) (f.made ++ f.later));
    quiet = quiet_more c m f.reads a f.quiet (is ∙ omega arith) small plain gives;
    turn = f.turn;
    goes = f.goes;
  };
}
put_in c (t ∷ before) since m acts a f is small plain gives = by
    (put_in (next_in c t) before since (m + 1) f.later a f.goes (is ∙ omega arith) small plain gives)
  where
    by : PutIn (next_in c t) (before ++ since) (m + 1) f.later a → PutIn c (t ∷ (before ++ since)) m acts a
    by p = record {
      before = f.reads ++ (f.made ++ p.before);
      behind = p.behind;
      are = f.are ∙ (ap (λ (l : List Act). f.reads ++ (f.made ++ l)) p.are
          ∙ (ap (λ (l : List Act). f.reads ++ l) (sym (append_assoc f.made p.before p.behind))
          ∙ sym (append_assoc f.reads (f.made ++ p.before) p.behind)));
      follows = record {
        reads = f.reads;
        made = f.made;
        later = p.before ++ a ∷ p.behind;
        are = append_assoc f.reads (f.made ++ p.before) (a ∷ p.behind)
            ∙ ap (λ (l : List Act). f.reads ++ l) (append_assoc f.made p.before (a ∷ p.behind));
        quiet = f.quiet;
        turn = f.turn;
        goes = p.follows;
      };
    }

-- ---- what goes along a run is replayed, in the order of its moments

quiet_replays : (c : Configuration) (m : ℕ) (acts : List Act) → AllQuiet c m acts
    → Replays (InSet c.state.memory) acts (InSet c.state.memory)
quiet_replays c m [] q = λ k small. ((λ s. s), (λ s. s))
quiet_replays c m (a ∷ acts) q = (
  q.1,
  q.3,
  replays_from (InSet c.state.memory) (changed (InSet c.state.memory) a.op a.key a.answer) acts (InSet c.state.memory)
      (alike_sym (changed (InSet c.state.memory) a.op a.key a.answer) (InSet c.state.memory)
      (unchanged (InSet c.state.memory) a.op a.key a.answer q.2)) (quiet_replays c m acts q.4),
)

pub follows_replays : (c : Configuration) (ts : List (ℕ × Event)) (m : ℕ) (acts : List Act) → Follows c ts m acts
    → Replays (InSet c.state.memory) acts (InSet (after_in c ts).state.memory)
unfolding after_in
follows_replays c [] m acts f = quiet_replays c m acts f
follows_replays c (t ∷ ts) m acts f = subst (λ (l : List Act). Replays (InSet c.state.memory) l
    (InSet (after_in (next_in c t) ts).state.memory)) (sym f.are)
    (replays_join (InSet c.state.memory) (InSet c.state.memory) f.reads (f.made ++ f.later)
    (InSet (after_in (next_in c t) ts).state.memory) (quiet_replays c m f.reads f.quiet)
    (replays_join (InSet c.state.memory) (InSet (next_in c t).state.memory) f.made f.later
    (InSet (after_in (next_in c t) ts).state.memory) f.turn.replays
    (follows_replays (next_in c t) ts (m + 1) f.later f.goes)))

-- acts that may come after any act up to a moment
abbrev After : ℕ → List Act → Type 0
After m acts = (n : ℕ) (quiet : Bool) → n ≤ m → InOrderOfMoments n quiet acts

quiet_then : (c : Configuration) (m : ℕ) (xs ys : List Act) → AllQuiet c m xs → After m ys → After m (xs ++ ys)
quiet_then c m [] ys q rest n quiet less = rest n quiet less
quiet_then c m (x ∷ xs) ys q rest n quiet less = (
  next (cases_lt n m),
  quiet_then c m xs ys q.4 rest x.moment (not (changes x.op x.answer))
      (let a = q.0 in omega arith),
)
  where
    next : (n < m) ⊎ (m ≤ n) → ComesNext n quiet x
    next (inl lt) = inl (let a = q.0 in omega arith)
    next (inr past) = inr ((let a = q.0 in omega arith), λ _. q.2)

-- changes of one turn, one behind the other
made_on : (m : ℕ) (xs ys : List Act) → AllAt m xs → After m ys → (n : ℕ) (quiet : Bool) → n ≡ m → quiet ≡ false
    → InOrderOfMoments n quiet (xs ++ ys)
made_on m [] ys at rest n quiet same none = rest n quiet (omega arith)
made_on m (x ∷ xs) ys at rest n quiet same none = (
  inr ((let a = at.0 in omega arith), λ is. absurd (true≢false (sym is ∙ none))),
  made_on m xs ys at.2 rest
      x.moment (not (changes x.op x.answer)) at.0 (ap not at.1),
)

made_then : (m : ℕ) (xs ys : List Act) → AllAt (m + 1) xs → After (m + 1) ys → After m (xs ++ ys)
made_then m [] ys at rest n quiet less = rest n quiet (omega arith)
made_then m (x ∷ xs) ys at rest n quiet less = (
  inl (let a = at.0 in omega arith),
  made_on (m + 1) xs ys at.2 rest
      x.moment (not (changes x.op x.answer)) at.0 (ap not at.1),
)

pub follows_in_order : (c : Configuration) (ts : List (ℕ × Event)) (m : ℕ) (acts : List Act) → Follows c ts m acts
    → After m acts
follows_in_order c [] m acts f = subst (After m) (append-nil acts) (quiet_then c m acts [] f (λ n quiet less. tt))
follows_in_order c (t ∷ ts) m acts f = subst (After m) (sym f.are)
    (quiet_then c m f.reads (f.made ++ f.later) f.quiet
    (made_then m f.made f.later f.turn.at (follows_in_order (next_in c t) ts (m + 1) f.later f.goes)))

-- ---- what is among acts

pub all_at : (m : ℕ) (acts : List Act) → AllAt m acts → (a : Act) → IsAmong acts a → a.moment ≡ m
all_at m [] at a there = absurd there
all_at m (x ∷ acts) at a (inl is) = ap (λ (y : Act). y.moment) (sym is) ∙ at.0
all_at m (x ∷ acts) at a (inr there) = all_at m acts at.2 a there

all_quiet : (c : Configuration) (m : ℕ) (acts : List Act) → AllQuiet c m acts → (a : Act) → IsAmong acts a
    → a.moment ≡ m
all_quiet c m [] q a there = absurd there
all_quiet c m (x ∷ acts) q a (inl is) = ap (λ (y : Act). y.moment) (sym is) ∙ q.0
all_quiet c m (x ∷ acts) q a (inr there) = all_quiet c m acts q.4 a there

pub among_either : (xs ys : List Act) (a : Act) → IsAmong (xs ++ ys) a → IsAmong xs a ⊎ IsAmong ys a
among_either [] ys a there = inr there
among_either (x ∷ xs) ys a (inl is) = inl (inl is)
among_either (x ∷ xs) ys a (inr there) = elim (among_either xs ys a there) [ inl l ↦ inl (inr l) | inr r ↦ inr r ]

-- no act is earlier than where they begin
no_earlier : (c : Configuration) (ts : List (ℕ × Event)) (m : ℕ) (acts : List Act) → Follows c ts m acts → (a : Act)
    → IsAmong acts a → m ≤ a.moment
no_earlier c [] m acts f a there = let e = all_quiet c m acts f a there in omega arith
no_earlier c (t ∷ ts) m acts f a there = elim (among_either f.reads (f.made ++ f.later) a
    (subst (λ (l : List Act). IsAmong l a) f.are there)) [
      | inl read ↦ (let e = all_quiet c m f.reads f.quiet a read in omega arith)
      | inr rest ↦ elim (among_either f.made f.later a rest) [
        | inl made ↦ (let e = all_at (m + 1) f.made f.turn.at a made in omega arith)
        | inr later ↦ (let e = no_earlier (next_in c t) ts (m + 1) f.later f.goes a later in omega arith)
      ]
    ]

-- ---- the set at each moment

pub record SplitAt (c d : Configuration) (n : ℕ) (acts : List Act) : Type 0 where
  pub first : List Act
  pub later : List Act
  pub are : acts ≡ first ++ later
  pub so_far : (a : Act) → IsAmong first a → a.moment ≤ n
  pub beyond : (a : Act) → IsAmong later a → n < a.moment
  pub replays : Replays (InSet c.state.memory) first (InSet d.state.memory)

pub split_at : (c : Configuration) (before since : List (ℕ × Event)) (m : ℕ) (acts : List Act)
    → Follows c (before ++ since) m acts → SplitAt c (after_in c before) (m + length before) acts
unfolding after_in
split_at c [] [] m acts f = record {
  first = acts;
  later = [];
  are = sym (append-nil acts);
  so_far = λ a there.
      (let e = all_quiet c m acts f a there in omega arith);
  beyond = λ a none. absurd none;
  replays = quiet_replays c
      m acts f;
}
split_at c [] (t ∷ since) m acts f = record {
  first = f.reads;
  later = f.made ++ f.later;
  are = f.are;
  so_far = λ a there. (let e = all_quiet c m f.reads f.quiet a there in omega arith);
  beyond = λ a there. elim (among_either f.made f.later a there) [
    | inl made ↦ (let e = all_at (m + 1) f.made f.turn.at a made in omega arith)
    | inr later ↦ (let e = no_earlier (next_in c t) since (m + 1) f.later f.goes a later in omega arith)
  ];
  replays = quiet_replays c m f.reads f.quiet;
}
split_at c (t ∷ before) since m acts f = by (split_at (next_in c t) before since (m + 1) f.later f.goes)
  where
    by : SplitAt (next_in c t) (after_in (next_in c t) before) (m + 1 + length before) f.later
        → SplitAt c (after_in (next_in c t) before) (m + length (t ∷ before)) acts
    by s = record {
      first = f.reads ++ (f.made ++ s.first);
      later = s.later;
      are = f.are ∙ (ap (λ (l : List Act). f.reads ++ (f.made ++ l)) s.are
          ∙ (ap (λ (l : List Act). f.reads ++ l) (sym (append_assoc f.made s.first s.later))
          ∙ sym (append_assoc f.reads (f.made ++ s.first) s.later)));
      so_far = λ a there. elim (among_either f.reads (f.made ++ s.first) a there) [
        | inl read ↦ (let e = all_quiet c m f.reads f.quiet a read in omega arith)
        | inr rest ↦ elim (among_either f.made s.first a rest) [
          | inl made ↦ (let e = all_at (m + 1) f.made f.turn.at a made in omega arith)
          | inr first ↦ (let e = s.so_far a first in omega arith)
        ]
      ];
      beyond = λ a there. (let e = s.beyond a there in omega arith);
      replays = replays_join (InSet c.state.memory) (InSet c.state.memory) f.reads (f.made ++ s.first)
          (InSet (after_in (next_in c t) before).state.memory) (quiet_replays c m f.reads f.quiet)
          (replays_join (InSet c.state.memory) (InSet (next_in c t).state.memory) f.made s.first
          (InSet (after_in (next_in c t) before).state.memory) f.turn.replays s.replays);
    }

-- ---- what a turn makes stands in a row

pub record Row (c : Configuration) (t : ℕ × Event) (m : ℕ) (acts : List Act) : Type 0 where
  pub front : List Act
  pub row : List Act
  pub back : List Act
  pub are : acts ≡ front ++ (row ++ back)
  pub changes : TurnChanges c t m row

pub follows_row : (c : Configuration) (before since : List (ℕ × Event)) (t : ℕ × Event) (m : ℕ) (acts : List Act)
    → Follows c (before ++ t ∷ since) m acts → Row (after_in c before) t (m + length before + 1) acts
unfolding after_in
follows_row c [] since t m acts f = record {
  front = f.reads;
  row = f.made;
  back = f.later;
  are = f.are;
  changes =
      subst (λ (n : ℕ). TurnChanges c t n f.made) (omega arith) f.turn;
}
follows_row c (s ∷ before) since t m acts f = by (follows_row (next_in c s) before since t (m + 1) f.later f.goes)
  where
    by : Row (after_in (next_in c s) before) t (m + 1 + length before + 1) f.later
        → Row (after_in (next_in c s) before) t (m + length (s ∷ before) + 1) acts
    by r = record {
      front = f.reads ++ (f.made ++ r.front);
      row = r.row;
      back = r.back;
      are = f.are ∙ (ap (λ (l : List Act). f.reads ++ (f.made ++ l)) r.are
          ∙ (ap (λ (l : List Act). f.reads ++ l) (sym (append_assoc f.made r.front (r.row ++ r.back)))
          ∙ sym (append_assoc f.reads (f.made ++ r.front) (r.row ++ r.back))));
      changes = subst (λ (n : ℕ). TurnChanges (after_in (next_in c s) before) t n r.row) (omega arith) r.changes;
    }
