-- The last edge that a walk read, in its log: the parent was known then, and what follows are looks.
use Rattle.std.proofs.Common.{◌≡◌, ◌≢◌, ℕ, zero, suc, ◌≤◌, Bool, true, false, cond, List, [], ◌∷◌, ◌++◌, append_assoc, refl, sym, ap, subst, ◌∙◌, arith}
use Rattle.std.specs.List.{list_any}
use Rattle.std.proofs.lemmas.Bool.{false_from_ne_true}
use Rattle.std.proofs.lemmas.List.{append-nil}
use Rattle.nm_edge.specs.Edges.{Edge}
use Rattle.nm_edge.specs.Layouts.{Layout}
use Rattle.nm_edge.specs.declared.edge.Side.{Side}
use Rattle.nm_edge.specs.declared.edge.Side.TheVariants.{Left, Right}
use Rattle.nm_model.specs.declared.event.Event.TheVariants.{Look, Join}
use Rattle.nm_model.specs.declared.event.Field.TheVariants.{Key as KeyOf, Edge as EdgeOn}
use Rattle.nm_model.specs.declared.reply.Reply.TheVariants.{KeyIs, EdgeIs}
use Rattle.nm_model.specs.Knowledge.{Knowledge, knows, is_private}
use Rattle.nm_model.specs.Runs.{of}
use Rattle.nm_model.specs.Walks.{Entry}
use Rattle.nm_laws.proofs.Steps.{allowed}
use Rattle.nm_laws.proofs.Configurations.{allowed_by_state}
use Rattle.nm_laws.proofs.TreeSteps.{Lawful, look_checked}
use Rattle.nm_order.specs.Facts.{Holds}
use Rattle.nm_order.specs.Facts.Fact.{KnowsSlot}
use Rattle.nm_order.specs.Logs.{IsLogOf}
use Rattle.nm_order.specs.Told.TellsEdge.{ByLook}
use Rattle.nm_order.proofs.LastEntries.{PartOf, LastEntry, last_entry, log_before}
use Rattle.nm_order.proofs.LastEntries.PartOf.{Own, Resigns}
use Rattle.nm_order.proofs.OrderedLaws.{law_of_state}
use Rattle.nm_order.proofs.FactStays.{facts_stay}
use Rattle.nm_order.proofs.TaughtFacts.{edges_are_learned}
use Rattle.nm_walks.specs.declared.looking.Onward.{Onward}
use Rattle.nm_walks.specs.declared.seek_record.ChainEdge.{ChainEdge}
use Rattle.nm_walks.specs.declared.seek_record.SeekRecord.{SeekRecord}
use Rattle.nm_walks.specs.Walks.{begin, onto, after_looks, edge_on, Reads, Walks}
use Rattle.nm_progress.proofs.MoreTries.{is_loud}

-- ---- lists

three_left : (old f : List Entry) (k a b : Entry)
    → (((old ++ f) ++ k ∷ []) ++ a ∷ []) ++ b ∷ [] ≡ old ++ ((f ++ k ∷ []) ++ a ∷ b ∷ [])
three_left [] [] k a b = refl
three_left [] (x ∷ f) k a b = ap (λ (l : List Entry). x ∷ l) (three_left [] f k a b)
three_left (x ∷ old) f k a b = ap (λ (l : List Entry). x ∷ l) (three_left old f k a b)

three_right : (old f : List Entry) (k a b : Entry)
    → (((old ++ f) ++ k ∷ []) ++ a ∷ []) ++ b ∷ [] ≡ old ++ ((f ++ k ∷ a ∷ []) ++ b ∷ [])
three_right [] [] k a b = refl
three_right [] (x ∷ f) k a b = ap (λ (l : List Entry). x ∷ l) (three_right [] f k a b)
three_right (x ∷ old) f k a b = ap (λ (l : List Entry). x ∷ l) (three_right old f k a b)

two_right : (old f : List Entry) (k a : Entry) → ((old ++ f) ++ k ∷ []) ++ a ∷ [] ≡ old ++ (f ++ k ∷ a ∷ [])
two_right [] [] k a = refl
two_right [] (x ∷ f) k a = ap (λ (l : List Entry). x ∷ l) (two_right [] f k a)
two_right (x ∷ old) f k a = ap (λ (l : List Entry). x ∷ l) (two_right old f k a)

-- ---- where a walk stands

pub onto_parent : (t : SeekRecord) (d : Side) (e : Edge) → (onto t d e).parent ≡ t.edge.slot
onto_parent t d e = by t.edge.tag
  where
    by : (b : Bool) → (cond {A = SeekRecord} b (record
        { ancestor = t.ancestor; above = t.above; successor = t.successor; parent = t.edge.slot; side = d; edge = e })
        (record {
          ancestor = t.parent;
          above = t.side;
          successor = t.edge.slot;
          parent = t.edge.slot;
          side = d;
          edge =
              e;
        })).parent ≡ t.edge.slot
    by true = refl
    by false = refl

pub onto_side : (t : SeekRecord) (d : Side) (e : Edge) → (onto t d e).side ≡ d
onto_side t d e = by t.edge.tag
  where
    by : (b : Bool) → (cond {A = SeekRecord} b (record
        { ancestor = t.ancestor; above = t.above; successor = t.successor; parent = t.edge.slot; side = d; edge = e })
        (record {
          ancestor = t.parent;
          above = t.side;
          successor = t.edge.slot;
          parent = t.edge.slot;
          side = d;
          edge =
              e;
        })).side ≡ d
    by true = refl
    by false = refl

pub onto_edge : (t : SeekRecord) (d : Side) (e : Edge) → (onto t d e).edge ≡ e
onto_edge t d e = by t.edge.tag
  where
    by : (b : Bool) → (cond {A = SeekRecord} b (record
        { ancestor = t.ancestor; above = t.above; successor = t.successor; parent = t.edge.slot; side = d; edge = e })
        (record {
          ancestor = t.parent;
          above = t.side;
          successor = t.edge.slot;
          parent = t.edge.slot;
          side = d;
          edge =
              e;
        })).edge ≡ e
    by true = refl
    by false = refl

module _ (L : Layout) (enough : 5 ≤ L.nodes) (w : ℕ) where
  Knows : List Entry → ℕ → Type 0
  Knows log x = Holds L w log (KnowsSlot x)

  -- ---- looks

  edge_looked : (log : List Entry) (x : ℕ) (d : Side) (e : Edge)
      → IsLogOf L w (log ++ (Look x (EdgeOn d), EdgeIs e) ∷ []) → Holds L w log (KnowsSlot x)
      → Holds L w (log ++ (Look x (EdgeOn d), EdgeIs e) ∷ []) (KnowsSlot x)
      × (e.slot ≢ 0 → Holds L w (log ++ (Look x (EdgeOn d), EdgeIs e) ∷ []) (KnowsSlot e.slot))
  edge_looked log x d e l known = (
    facts_stay L enough w log (Look x (EdgeOn d), EdgeIs e) l refl (KnowsSlot x)
        known,
    (edges_are_learned L enough w log (Look x (EdgeOn d), EdgeIs e) l x d e (ByLook x d e) known).leads,
  )

  -- who looks at slot 2 knows it
  second_known : (log : List Entry) (d : Side) (e : Edge) → IsLogOf L w (log ++ (Look 2 (EdgeOn d), EdgeIs e) ∷ [])
      → Holds L w log (KnowsSlot 2)
  second_known log d e l = by (last_entry L enough w log (Look 2 (EdgeOn d), EdgeIs e) l)
    where
      by : LastEntry L w log (Look 2 (EdgeOn d), EdgeIs e) → Holds L w log (KnowsSlot 2)
      by t = on t.takes
        where
          law : (h : ℕ → ℕ) × Lawful t.before.state h
          law = law_of_state L enough t.before t.told.is_ordered

          shared : (u : ℕ) → is_private (of t.before.state u) 2 ≡ false
          shared u = false_from_ne_true (is_private (of t.before.state u) 2)
              (λ own. let r = law.1.tree.privates u 2 own in absurd (omega (arith, r)))

          on : PartOf w t.by (Look 2 (EdgeOn d)) → Holds L w log (KnowsSlot 2)
          on (Resigns v at) = absurd (differ at)
            where
              differ : Look 2 (EdgeOn d) ≡ Join v → ⊥
              differ i = cc
          on (Own own) = ap (λ (k : Knowledge). knows k 2) (sym t.told.knows)
              ∙ (ap (λ (u : ℕ). knows (of t.before.state u) 2) (sym own)
              ∙ look_checked t.before.state t.by 2 (EdgeOn d)
              (allowed t.before.state t.by (Look 2 (EdgeOn d))
              (allowed_by_state t.before t.by (Look 2 (EdgeOn d)) t.is_allowed)).event (shared t.by))

  -- ---- walks

  pub record WalkRead (old new : List Entry) (s : SeekRecord) : Type 0 where
    pub first : List Entry
    pub tail : List Entry
    pub are : new ≡ old ++ (first ++ (Look s.parent (EdgeOn s.side), EdgeIs s.edge) ∷ tail)
    pub quiet : list_any is_loud tail ≡ false
    pub known : Holds L w (old ++ first) (KnowsSlot s.parent)
    pub leads : Holds L w new (KnowsSlot s.edge.slot)

  -- three looks at a known node
  record Looked (mid : List Entry) (x key : ℕ) (left right : Edge) : Type 0 where
    at_left : Holds L w (mid ++ (Look x KeyOf, KeyIs key) ∷ []) (KnowsSlot x)
    at_right : Holds L w ((mid ++ (Look x KeyOf, KeyIs key) ∷ []) ++ (Look x (EdgeOn Left), EdgeIs left) ∷ [])
        (KnowsSlot x)
    to_left : left.slot ≢ 0 → Holds L w (after_looks mid x key left right) (KnowsSlot left.slot)
    to_right : right.slot ≢ 0 → Holds L w (after_looks mid x key left right) (KnowsSlot right.slot)

  looked : (mid : List Entry) (x key : ℕ) (left right : Edge) → IsLogOf L w (after_looks mid x key left right)
      → Holds L w mid (KnowsSlot x) → Looked mid x key left right
  looked mid x key left right l known = record {
    at_left = one;
    at_right = two.0;
    to_left = λ some. facts_stay L enough w l2 (Look x (EdgeOn Right), EdgeIs right) l refl (KnowsSlot left.slot)
        (two.1 some);
    to_right = (edge_looked l2 x Right right l two.0).1;
  }
    where
      l1 : List Entry
      l1 = mid ++ (Look x KeyOf, KeyIs key) ∷ []

      l2 : List Entry
      l2 = (mid ++ (Look x KeyOf, KeyIs key) ∷ []) ++ (Look x (EdgeOn Left), EdgeIs left) ∷ []

      log2 : IsLogOf L w ((mid ++ (Look x KeyOf, KeyIs key) ∷ []) ++ (Look x (EdgeOn Left), EdgeIs left) ∷ [])
      log2 = log_before L w _ (Look x (EdgeOn Right), EdgeIs right) l

      log1 : IsLogOf L w (mid ++ (Look x KeyOf, KeyIs key) ∷ [])
      log1 = log_before L w _ (Look x (EdgeOn Left), EdgeIs left) log2

      one : Holds L w (mid ++ (Look x KeyOf, KeyIs key) ∷ []) (KnowsSlot x)
      one = facts_stay L enough w mid (Look x KeyOf, KeyIs key) log1 refl (KnowsSlot x) known

      two : Holds L w ((mid ++ (Look x KeyOf, KeyIs key) ∷ []) ++ (Look x (EdgeOn Left), EdgeIs left) ∷ [])
          (KnowsSlot x) × (left.slot ≢ 0 → Holds L w ((mid ++ (Look x KeyOf, KeyIs key) ∷ [])
          ++ (Look x (EdgeOn Left), EdgeIs left) ∷ []) (KnowsSlot left.slot))
      two = edge_looked l1 x Left left log2 one

  mid_of : (k x : ℕ) (mid new : List Entry) (on : Onward) → Reads k x mid new on → IsLogOf L w new → IsLogOf L w mid
  mid_of k x mid new on r l = log_before L w mid _ (log_before L w _ _ (log_before L w _ _ (subst (IsLogOf L w) r.2 l)))

  walk_began : (old new : List Entry) (s : SeekRecord) → s ≡ begin s.edge → s.edge.slot ≢ 0
      → new ≡ old ++ (Look 2 (EdgeOn Left), EdgeIs s.edge) ∷ [] → IsLogOf L w new → WalkRead old new s
  walk_began old new s is some are l = record {
    first = [];
    tail = [];
    are = are ∙ (λ i. old ++ (Look (parent i) (EdgeOn (side i)), EdgeIs s.edge) ∷ []);
    quiet = refl;
    known = subst (λ (x : ℕ). Holds L w (old ++ []) (KnowsSlot x)) parent
        (subst (λ (l : List Entry). Holds L w l (KnowsSlot 2)) (sym (append-nil old)) known);
    leads = subst (λ (l : List Entry). Holds L w l (KnowsSlot s.edge.slot)) (sym are)
        ((edge_looked old 2 Left s.edge log known).1 some);
  }
    where
      parent : 2 ≡ s.parent
      parent = sym (ap (λ (s : SeekRecord). s.parent) is)

      side : Left ≡ s.side
      side = sym (ap (λ (s : SeekRecord). s.side) is)

      log : IsLogOf L w (old ++ (Look 2 (EdgeOn Left), EdgeIs s.edge) ∷ [])
      log = subst (IsLogOf L w) are l

      known : Holds L w old (KnowsSlot 2)
      known = second_known old Left s.edge log

  walk_went : (k : ℕ) (old mid new : List Entry) (t s : SeekRecord) (on : Onward) → WalkRead old mid t
      → on.next.slot ≢ 0 → Reads k t.edge.slot mid new on → s ≡ onto t on.side on.next → IsLogOf L w new
      → WalkRead old new s
  walk_went k old mid new t s on before some r is l = by on.side refl
    where
      x : ℕ
      x = t.edge.slot

      f : List Entry
      f = before.first ++ (Look t.parent (EdgeOn t.side), EdgeIs t.edge) ∷ before.tail

      parent : t.edge.slot ≡ s.parent
      parent = sym (onto_parent t on.side on.next) ∙ sym (ap (λ (s : SeekRecord). s.parent) is)

      side : on.side ≡ s.side
      side = sym (onto_side t on.side on.next) ∙ sym (ap (λ (s : SeekRecord). s.side) is)

      next : on.next ≡ s.edge
      next = sym (onto_edge t on.side on.next) ∙ sym (ap (λ (s : SeekRecord). s.edge) is)

      looks : Looked mid t.edge.slot on.found r.0 r.1
      looks = looked mid t.edge.slot on.found r.0 r.1 (subst (IsLogOf L w) r.2 l) before.leads

      whole : new ≡ after_looks (old ++ (before.first ++ (Look t.parent (EdgeOn t.side), EdgeIs t.edge)
          ∷ before.tail)) t.edge.slot on.found r.0 r.1
      whole = r.2 ∙ ap (λ (l : List Entry). after_looks l t.edge.slot on.found r.0 r.1) before.are

      by : (d : Side) → on.side ≡ d → WalkRead old new s
      by Left at = record {
        first = f ++ (Look t.edge.slot KeyOf, KeyIs on.found) ∷ [];
        tail = (Look t.edge.slot (EdgeOn Right), EdgeIs r.1) ∷ [];
        are = whole ∙ (three_left old f (Look t.edge.slot KeyOf, KeyIs on.found)
            (Look t.edge.slot (EdgeOn Left), EdgeIs r.0) (Look t.edge.slot (EdgeOn Right), EdgeIs r.1)
            ∙ (λ i. old ++ ((f ++ (Look t.edge.slot KeyOf, KeyIs on.found) ∷ [])
            ++ (Look (parent i) (EdgeOn ((sym at ∙ side) i)), EdgeIs (read i))
            ∷ (Look t.edge.slot (EdgeOn Right), EdgeIs r.1) ∷ [])));
        quiet = refl;
        known = subst (λ (x : ℕ). Holds L w (old ++ (f ++ (Look t.edge.slot KeyOf, KeyIs on.found) ∷ []))
            (KnowsSlot x)) parent
            (subst (λ (l : List Entry). Holds L w l (KnowsSlot t.edge.slot))
            (ap (λ (l : List Entry). l ++ (Look t.edge.slot KeyOf, KeyIs on.found) ∷ []) before.are
            ∙ append_assoc old f ((Look t.edge.slot KeyOf, KeyIs on.found) ∷ [])) looks.at_left);
        leads = subst (λ (l : List Entry). Holds L w l (KnowsSlot s.edge.slot)) (sym r.2)
            (subst (λ (e : Edge). Holds L w (after_looks mid t.edge.slot on.found r.0 r.1) (KnowsSlot e.slot)) read
            (looks.to_left (λ z. some (ap (λ (e : Edge). e.slot) (next ∙ sym read) ∙ z))));
      }
        where
          read : r.0 ≡ s.edge
          read = sym (r.4 ∙ ap (λ (d : Side). edge_on d r.0 r.1) at) ∙ next
      by Right at = record {
        first = f ++ (Look t.edge.slot KeyOf, KeyIs on.found) ∷ (Look t.edge.slot (EdgeOn Left), EdgeIs r.0) ∷ [];
        tail = [];
        are = whole ∙ (three_right old f (Look t.edge.slot KeyOf, KeyIs on.found)
            (Look t.edge.slot (EdgeOn Left), EdgeIs r.0) (Look t.edge.slot (EdgeOn Right), EdgeIs r.1)
            ∙ (λ i. old ++ ((f ++ (Look t.edge.slot KeyOf, KeyIs on.found)
            ∷ (Look t.edge.slot (EdgeOn Left), EdgeIs r.0) ∷ [])
            ++ (Look (parent i) (EdgeOn ((sym at ∙ side) i)), EdgeIs (read i)) ∷ [])));
        quiet = refl;
        known = subst (λ (x : ℕ). Holds L w (old ++ (f ++ (Look t.edge.slot KeyOf, KeyIs on.found)
            ∷ (Look t.edge.slot (EdgeOn Left), EdgeIs r.0) ∷ [])) (KnowsSlot x)) parent
            (subst (λ (l : List Entry). Holds L w l (KnowsSlot t.edge.slot))
            (ap (λ (l : List Entry). (l ++ (Look t.edge.slot KeyOf, KeyIs on.found) ∷ [])
            ++ (Look t.edge.slot (EdgeOn Left), EdgeIs r.0) ∷ []) before.are
            ∙ two_right old f (Look t.edge.slot KeyOf, KeyIs on.found)
            (Look t.edge.slot (EdgeOn Left), EdgeIs r.0)) looks.at_right);
        leads = subst (λ (l : List Entry). Holds L w l (KnowsSlot s.edge.slot)) (sym r.2)
            (subst (λ (e : Edge). Holds L w (after_looks mid t.edge.slot on.found r.0 r.1) (KnowsSlot e.slot)) read
            (looks.to_right (λ z. some (ap (λ (e : Edge). e.slot) (next ∙ sym read) ∙ z))));
      }
        where
          read : r.1 ≡ s.edge
          read = sym (r.4 ∙ ap (λ (d : Side). edge_on d r.0 r.1) at) ∙ next

  pub walk_read : (k n : ℕ) (old new : List Entry) (s : SeekRecord) (c : List ChainEdge) → Walks k n old new s c
      → IsLogOf L w new → WalkRead old new s
  walk_read k zero old new s c h l = walk_began old new s h.0 h.2 h.3 l
  walk_read k (suc n) old new s c h l = walk_went k old h.0 new h.1 s h.3
      (walk_read k n old h.0 h.1 h.2 h.4 (mid_of k h.1.edge.slot h.0 new h.3 h.6 l)) h.5 h.6 h.7 l
