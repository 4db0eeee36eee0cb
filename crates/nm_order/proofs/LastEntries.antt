-- A part of an ordered run that ends with an entry: the configuration before the turn of that
-- entry, and what its worker knew then.
use Rattle.std.proofs.Common.{◌≡◌, ℕ, zero, suc, ◌<◌, ◌≤◌, inl, inr, ◌==◌, Bool, true, false, List, [], ◌∷◌, ◌++◌, refl, sym, ap, subst, ◌∙◌, arith, true≢false}
use Rattle.std.specs.Prelude.{Option, Some, None, IfSome, All}
use Rattle.std.proofs.lemmas.Bool.{eqb-true, or_cases}
use Rattle.std.proofs.lemmas.Option.{same_Some}
use Rattle.nm_edge.specs.Layouts.{Layout}
use Rattle.nm_model.specs.declared.event.Event.{Event}
use Rattle.nm_model.specs.declared.event.Event.TheVariants.{Join}
use Rattle.nm_model.specs.declared.reply.Reply.{Reply}
use Rattle.nm_model.specs.declared.reply.Refused.{Refused}
use Rattle.nm_model.specs.Knowledge.{Knowledge}
use Rattle.nm_model.specs.Learning.{learn}
use Rattle.nm_model.specs.Runs.{of, reply_of}
use Rattle.nm_model.specs.Searches.{Search, idle, searched}
use Rattle.nm_model.specs.Walks.{Entry, log_of, search_after}
use Rattle.nm_model.specs.Ordered.{Configuration, ordered, search_of, refused_in, next_in, after_in, trace_in}
use Rattle.nm_laws.proofs.LogsOfRuns.{searches_tell}
use Rattle.nm_laws.proofs.Configurations.{refused_next}
use Rattle.nm_order.specs.Intervals.{HasKey}
use Rattle.nm_order.specs.Logs.{is_leaver, takes_part, part_of, known_after, known_by, IsLogOf}
use Rattle.nm_order.proofs.PartsOfRuns.{logs_tell, refused_adds, others_add, own_adds, part_tells_search}
use Rattle.nm_order.proofs.OrderedLaws.{IsOrdered, each_ordered}

-- ---- folds over a log with one entry more

pub known_more : (w : ℕ) (k : Knowledge) (log : List Entry) (e : Entry)
    → known_after w k (log ++ e ∷ []) ≡ learn w (known_after w k log) e.0 e.1
known_more w k [] e = refl
known_more w k (f ∷ log) e = known_more w (learn w k f.0 f.1) log e

pub search_more : (s : Search) (log : List Entry) (e : Entry)
    → search_after s (log ++ e ∷ []) ≡ searched (search_after s log) e.0 e.1
search_more s [] e = refl
search_more s (f ∷ log) e = search_more (searched s f.0 f.1) log e

-- ---- a configuration that an ordered run leads to, and what a worker's part tells of it

pub record ToldBy (L : Layout) (w : ℕ) (log : List Entry) (c : Configuration) : Type 0 where
  pub is_ordered : IsOrdered L c
  pub knows : of c.state w ≡ known_by L w log
  pub search : search_of is_ordered.searches w ≡ search_after idle log

pub at_some : (o : Option (List Search)) (ss : List Search) (P : List Search → Type 0) → o ≡ Some ss → IfSome o P → P ss
at_some None ss P is h = absurd (go is)
  where
    go : ◌≡◌ {A = Option (List Search)} None (Some ss) → ⊥
    go e = cc
at_some (Some xs) ss P is h = subst P (same_Some xs ss is) h

pub told_by_part : (L : Layout) → 5 ≤ L.nodes → (w : ℕ) → w < L.workers → (turns : List (ℕ × Event))
    → All (λ t. HasKey t.1) turns → ToldBy L w (part_of w (trace_in (ordered L) turns)) (after_in (ordered L) turns)
told_by_part L enough w below turns keys =
    let o = each_ordered L enough turns keys in
    record {
      is_ordered = o;
      knows = logs_tell L turns w below;
      search = at_some (after_in (ordered L) turns).searches o.searches
          (λ ss. search_of ss w ≡ search_after idle (log_of w (trace_in (ordered L) turns))) o.are
          (searches_tell L turns w below)
          ∙ sym (part_tells_search w (trace_in (ordered L) turns) idle);
    }

-- ---- the turn of the last entry

-- the turns before that of the last entry, which is allowed and has that reply
pub record LastTurn (w : ℕ) (c : Configuration) (ts : List (ℕ × Event)) (log : List Entry) (e : Entry) : Type 0 where
  pub before : List (ℕ × Event)
  pub since : List (ℕ × Event)
  pub keys : All (λ t. HasKey t.1) before
  pub is_before : part_of w (trace_in c before) ≡ log
  pub turn : ℕ × Event
  pub is_run : ts ≡ before ++ turn ∷ since
  pub has_key : HasKey turn.1
  pub is_allowed : refused_in (after_in c before) turn.0 turn.1 ≡ None
  pub takes : takes_part w turn.0 turn.1 ≡ true
  pub is_entry : (turn.1, reply_of (after_in c before).state turn.0 turn.1) ≡ e

head_is : (x y : Entry) (xs ys : List Entry) → x ∷ xs ≡ y ∷ ys → (x ≡ y) × (xs ≡ ys)
head_is x y xs ys h = (cc, cc)

all_and : {X : Type 0} (P : X → Type 0) (x : X) (xs : List X) → P x → All P xs → All P (x ∷ xs)
all_and P x xs p ps zero d below = p
all_and P x xs p ps (suc i) d below = ps i d (omega (arith, below))

module _ (w : ℕ) where
  -- one turn more in front
  behind : (c : Configuration) (t : ℕ × Event) (ts : List (ℕ × Event)) (log more : List Entry) (e : Entry)
      → HasKey t.1 → ((us : List (ℕ × Event)) → part_of w (trace_in c (t ∷ us))
      ≡ more ++ part_of w (trace_in (next_in c t) us))
      → LastTurn w (next_in c t) ts log e → LastTurn w c (t ∷ ts) (more ++ log) e
  unfolding after_in
  behind c t ts log more e has adds l = record {
    before = t ∷ l.before;
    since = l.since;
    is_run = ap (λ (us : List (ℕ × Event)). t ∷ us) l.is_run;
    keys = all_and (λ (t : ℕ × Event). HasKey t.1) t l.before has l.keys;
    is_before = adds l.before ∙ ap (λ (xs : List Entry). more ++ xs) l.is_before;
    turn = l.turn;
    has_key = l.has_key;
    is_allowed = l.is_allowed;
    takes = l.takes;
    is_entry = l.is_entry;
  }

  pub last_turn : (ts : List (ℕ × Event)) → All (λ t. HasKey t.1) ts
      → (c : Configuration) (log : List Entry) (e : Entry) → part_of w (trace_in c ts) ≡ log ++ e ∷ []
      → LastTurn w c ts log e
  unfolding after_in trace_in
  last_turn [] keys c [] e is = absurd (go is)
    where
      go : ◌≡◌ {A = List Entry} [] (e ∷ []) → ⊥
      go h = cc
  last_turn [] keys c (f ∷ log) e is = absurd (go is)
    where
      go : ◌≡◌ {A = List Entry} [] (f ∷ (log ++ e ∷ [])) → ⊥
      go h = cc
  last_turn (t ∷ ts) keys c log e is = go (refused_in c t.0 t.1) refl
      (last_turn ts (λ i d below. keys (suc i) d (omega arith)) (next_in c t))
    where
      Rest : Type 0
      Rest = (log : List Entry) (e : Entry) → part_of w (trace_in (next_in c t) ts) ≡ log ++ e ∷ []
          → LastTurn w (next_in c t) ts log e

      has : HasKey t.1
      has = keys 0 t (omega arith)

      go : (o : Option Refused) → refused_in c t.0 t.1 ≡ o → Rest → LastTurn w c (t ∷ ts) log e
      go (Some r) why rest = behind c t ts log [] e has
          (λ us. refused_adds w c t us r why ∙ ap (λ (d : Configuration). part_of w (trace_in d us))
          (sym (refused_next c t r why)))
          (rest log e (ap (λ (d : Configuration). part_of w (trace_in d ts)) (refused_next c t r why)
          ∙ (sym (refused_adds w c t ts r why) ∙ is)))
      go None why rest = by (takes_part w t.0 t.1) refl
        where
          r : Reply
          r = reply_of c.state t.0 t.1

          own : takes_part w t.0 t.1 ≡ true → (log : List Entry)
              → (t.1, r) ∷ part_of w (trace_in (next_in c t) ts) ≡ log ++ e ∷ [] → LastTurn w c (t ∷ ts) log e
          own takes [] same = record {
            before = [];
            since = ts;
            is_run = refl;
            keys = λ i d below. absurd (omega (arith, below));
            is_before = refl;
            turn = t;
            has_key = has;
            is_allowed = why;
            takes = takes;
            is_entry = (head_is (t.1, r) e (part_of w (trace_in (next_in c t) ts)) [] same).0;
          }
          own takes (f ∷ log) same =
              let parts = head_is (t.1, r) f (part_of w (trace_in (next_in c t) ts)) (log ++ e ∷ []) same in
              subst (λ (f : Entry). LastTurn w c (t ∷ ts) (f ∷ log) e) parts.0
              (behind c t ts log ((t.1, r) ∷ []) e has (λ us. own_adds w c t us why takes) (rest log e parts.1))

          by : (b : Bool) → takes_part w t.0 t.1 ≡ b → LastTurn w c (t ∷ ts) log e
          by true takes = own takes log (sym (own_adds w c t ts why takes) ∙ is)
          by false none = behind c t ts log [] e has (λ us. others_add w c t us why none)
              (rest log e (sym (others_add w c t ts why none) ∙ is))

-- ---- of a log

-- a worker takes part in an event that it makes, or in a join by which it resigns
pub data PartOf (w u : ℕ) (e : Event) : Type 0 where
  Own : u ≡ w → PartOf w u e
  Resigns : (v : ℕ) → e ≡ Join v → PartOf w u e

pub part_or : (w u : ℕ) (e : Event) → takes_part w u e ≡ true → PartOf w u e
part_or w u e takes = elim (or_cases (u == w) (is_leaver w e) takes) [
  | inl own ↦ Own (eqb-true u w own)
  | inr leaver ↦ go e leaver
]
  where
    go : (e : Event) → is_leaver w e ≡ true → PartOf w u e
    go (Join v) is = Resigns v refl
    go e is = absurd (true≢false (sym is))

pub record LastEntry (L : Layout) (w : ℕ) (log : List Entry) (e : Entry) : Type 0 where
  pub turns : List (ℕ × Event)
  pub keys : All (λ t. HasKey t.1) turns
  pub before : Configuration
  pub leads : after_in (ordered L) turns ≡ before
  pub told : ToldBy L w log before
  pub by : ℕ
  pub has_key : HasKey e.0
  pub is_allowed : refused_in before by e.0 ≡ None
  pub takes : PartOf w by e.0
  pub replied : reply_of before.state by e.0 ≡ e.1

pub last_entry : (L : Layout) → 5 ≤ L.nodes → (w : ℕ) (log : List Entry) (e : Entry) → IsLogOf L w (log ++ e ∷ [])
    → LastEntry L w log e
last_entry L enough w log e l = go (last_turn w l.turns l.keys (ordered L) log e l.is_part)
  where
    go : LastTurn w (ordered L) l.turns log e → LastEntry L w log e
    go t = subst (λ (e : Entry). LastEntry L w log e) t.is_entry (record {
      turns = t.before;
      keys = t.keys;
      before = after_in (ordered L) t.before;
      leads = refl;
      told = subst (λ (log : List Entry). ToldBy L w log (after_in (ordered L) t.before)) t.is_before
          (told_by_part L enough w l.worker t.before t.keys);
      by = t.turn.0;
      has_key = t.has_key;
      is_allowed = t.is_allowed;
      takes = part_or w t.turn.0 t.turn.1 t.takes;
      replied = refl;
    })

-- and without its last entry a part is a part
pub log_before : (L : Layout) (w : ℕ) (log : List Entry) (e : Entry) → IsLogOf L w (log ++ e ∷ []) → IsLogOf L w log
log_before L w log e l = go (last_turn w l.turns l.keys (ordered L) log e l.is_part)
  where
    go : LastTurn w (ordered L) l.turns log e → IsLogOf L w log
    go t = record { worker = l.worker; turns = t.before; keys = t.keys; is_part = t.is_before }
