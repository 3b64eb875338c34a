-- What a contract sees of an owner's ends of its rings. Over them go items of any type T.
use Rattle.std.specs.Prelude.{◌≡◌, ◌≢◌, ℕ, ◌+◌, ◌<◌, List, [], ◌∷◌, ◌++◌, length, Option, Some, None, slice_get, slice_index_or, vec_len}
use Rattle.rtrb.specs.Ring.{sent, received, known_free, known_items, producer_capacity, consumer_capacity, SameProducer, SameConsumer, IsPair}
use Rattle.awari_lines.specs.declared.ends.RingPair.{RingPair}
use Rattle.awari_lines.specs.declared.ends.Ends.{Ends}
use Rattle.awari_lines.specs.Seats.{seat_of}

module _ {T : Type 0} where
  -- how many owners the rings are among
  abbrev pub owners_of : Ends T → ℕ
  owners_of e = vec_len e.pairs + 1

  -- the number of an owner other than this one
  abbrev pub IsOther : Ends T → ℕ → Type 0
  IsOther e j = (j ≢ e.owner) × (j < owners_of e)

  -- the ring to the owner j
  abbrev pub pair_of : Ends T → ℕ → Option (RingPair T)
  pair_of e j = slice_get e.pairs.items (seat_of e.owner j)

  abbrev pub sent_on : Option (RingPair T) → List T
  sent_on None = []
  sent_on (Some l) = sent l.producer

  abbrev pub received_on : Option (RingPair T) → List T
  received_on None = []
  received_on (Some l) = received l.consumer

  abbrev pub waiting_on : Option (RingPair T) → List T
  waiting_on None = []
  waiting_on (Some l) = known_items l.consumer

  abbrev pub free_on : Option (RingPair T) → ℕ
  free_on None = 0
  free_on (Some l) = known_free l.producer

  -- every item that was sent to the owner j, oldest first
  abbrev pub sent_to : Ends T → ℕ → List T
  sent_to e j = sent_on (pair_of e j)

  -- every item that was received from the owner j, oldest first
  abbrev pub received_from : Ends T → ℕ → List T
  received_from e j = received_on (pair_of e j)

  -- the items that are known to wait on the ring from the owner j: they come next
  abbrev pub waiting_from : Ends T → ℕ → List T
  waiting_from e j = waiting_on (pair_of e j)

  -- for how many more items the ring to the owner j is known to have room
  abbrev pub free_to : Ends T → ℕ → ℕ
  free_to e j = free_on (pair_of e j)

  -- the same ends of the same two rings
  abbrev pub SameRings : Option (RingPair T) → Option (RingPair T) → Type 0
  SameRings None None = Unit {0}
  SameRings None (Some m) = ⊥
  SameRings (Some l) None = ⊥
  SameRings (Some l) (Some m) = SameProducer l.producer m.producer × SameConsumer l.consumer m.consumer

  -- nothing was sent or received, and more may be known to wait
  pub record PairLooked (l m : RingPair T) : Type 0 where
    pub producer : SameProducer l.producer m.producer
    pub consumer : SameConsumer l.consumer m.consumer
    pub sent : sent m.producer ≡ sent l.producer
    pub received : received m.consumer ≡ received l.consumer

  -- the same owner's ends of the same rings
  pub record SamePairs (a b : Ends T) : Type 0 where
    pub owner : b.owner ≡ a.owner
    pub owners : vec_len b.pairs ≡ vec_len a.pairs
    pub rings : (k : ℕ) → SameRings (slice_get a.pairs.items k) (slice_get b.pairs.items k)

  -- nothing has changed on the rings of other owners than j
  abbrev pub SameBut : Ends T → Ends T → ℕ → Type 0
  SameBut a b j = (k : ℕ) → k ≢ j → k ≢ a.owner → pair_of b k ≡ pair_of a k

  -- nothing has changed but what was sent to the owner j, and for how much more there is room
  pub record SendsOnly (a b : Ends T) (j : ℕ) : Type 0 where
    pub pairs : SamePairs a b
    pub others : SameBut a b j
    pub received : received_from b j ≡ received_from a j
    pub waiting : waiting_from b j ≡ waiting_from a j

  -- nothing has changed but what was received from the owner j, and what waits
  pub record TakesOnly (a b : Ends T) (j : ℕ) : Type 0 where
    pub pairs : SamePairs a b
    pub others : SameBut a b j
    pub sent : sent_to b j ≡ sent_to a j
    pub free : free_to b j ≡ free_to a j

  -- the two ends of each of the two rings between two owners
  abbrev pub PairedOn : Option (RingPair T) → Option (RingPair T) → Type 0
  PairedOn None m = ⊥
  PairedOn (Some l) None = ⊥
  PairedOn (Some l) (Some m) = IsPair l.producer m.consumer × IsPair m.producer l.consumer

  abbrev pub Paired : Ends T → Ends T → Type 0
  Paired a b = PairedOn (pair_of a b.owner) (pair_of b a.owner)

  -- the ends of two owners of one grid, with the two rings between them
  pub record AreLinked (a b : Ends T) : Type 0 where
    pub other : IsOther a b.owner
    pub this : IsOther b a.owner
    pub paired : Paired a b

  -- nothing was sent or received, and all room is known to be free
  abbrev pub UnusedOn : Option (RingPair T) → Type 0
  UnusedOn None = Unit {0}
  UnusedOn (Some l) = (sent l.producer ≡ []) × (received l.consumer ≡ []) × (known_items l.consumer ≡ []) × (known_free l.producer ≡ producer_capacity l.producer)

  abbrev pub IsUnused : Ends T → Type 0
  IsUnused e = (k : ℕ) → UnusedOn (slice_get e.pairs.items k)

  -- both rings of a ring have room for this many items
  abbrev pub HasRoomOn : ℕ → Option (RingPair T) → Type 0
  HasRoomOn room None = Unit {0}
  HasRoomOn room (Some l) = (producer_capacity l.producer ≡ room) × (consumer_capacity l.consumer ≡ room)

  abbrev pub HasRoom : ℕ → Ends T → Type 0
  HasRoom room e = (k : ℕ) → HasRoomOn room (slice_get e.pairs.items k)

  -- the ends a became b by a ring at the end with so much room, whose other owner has m for it
  pub record Connected (space : ℕ) (a b : Ends T) (m : RingPair T) : Type 0 where
    pub owner : b.owner ≡ a.owner
    pub pair : RingPair T
    pub added : b.pairs.items ≡ a.pairs.items ++ pair ∷ []
    pub paired : PairedOn (Some pair) (Some m)
    pub unused : UnusedOn (Some pair)
    pub unused_there : UnusedOn (Some m)
    pub room : HasRoomOn space (Some pair)
    pub room_there : HasRoomOn space (Some m)

  -- on the ring to the owner j nothing was sent or received, and more may be known to wait
  pub record Looked (a b : Ends T) (j : ℕ) : Type 0 where
    pub pairs : SamePairs a b
    pub others : SameBut a b j
    pub sent : sent_to b j ≡ sent_to a j
    pub received : received_from b j ≡ received_from a j

  -- between two owners, what was received and then what waits is what was sent
  abbrev pub IsExact : Ends T → Ends T → Type 0
  IsExact a b =
      (received_from a b.owner ++ waiting_from a b.owner ≡ sent_to b a.owner)
      × (received_from b a.owner ++ waiting_from b a.owner ≡ sent_to a b.owner)

  abbrev pub NothingWaits : Ends T → Ends T → Type 0
  NothingWaits a b = (waiting_from a b.owner ≡ []) × (waiting_from b a.owner ≡ [])

  -- the ends of all owners, in the order of their numbers
  pub record IsGrid (es : List (Ends T)) : Type 0 where
    pub owner : (i : ℕ) (d : Ends T) → i < length es → (slice_index_or es i d).owner ≡ i
    pub owners : (i : ℕ) (d : Ends T) → i < length es → owners_of (slice_index_or es i d) ≡ length es
    pub paired : (i j : ℕ) (d : Ends T) → i < j → j < length es → Paired (slice_index_or es i d) (slice_index_or es j d)

  abbrev pub AllUnused : List (Ends T) → Type 0
  AllUnused es = (i : ℕ) (d : Ends T) → i < length es → IsUnused (slice_index_or es i d)

  abbrev pub HaveRoom : ℕ → List (Ends T) → Type 0
  HaveRoom room es = (i : ℕ) (d : Ends T) → i < length es → HasRoom room (slice_index_or es i d)

  -- the same ends with the same history
  pub record SameHistory (a b : Ends T) : Type 0 where
    pub pairs : SamePairs a b
    pub sent : (j : ℕ) → j ≢ a.owner → sent_to b j ≡ sent_to a j
    pub received : (j : ℕ) → j ≢ a.owner → received_from b j ≡ received_from a j

  -- on each ring what was received, and then what is known to wait, is what was sent
  abbrev pub AreExact : List (Ends T) → Type 0
  AreExact es = (i j : ℕ) (d : Ends T) → i < length es → j < length es → i ≢ j
      → received_from (slice_index_or es i d) j ++ waiting_from (slice_index_or es i d) j ≡ sent_to (slice_index_or es j d) i

  -- nothing is known to wait on any ring
  abbrev pub NoneWait : List (Ends T) → Type 0
  NoneWait es = (i j : ℕ) (d : Ends T) → i < length es → j < length es → i ≢ j → waiting_from (slice_index_or es i d) j ≡ []

  -- the owners i and j looked at the rings between them
  pub record LookedAt (es fs : List (Ends T)) (i j : ℕ) : Type 0 where
    pub grid : IsGrid fs
    pub same : (k : ℕ) (d : Ends T) → k < length es → SameHistory (slice_index_or es k d) (slice_index_or fs k d)
    pub others : (x y : ℕ) (d : Ends T) → x < length es → x ≢ y → ¬ ((x ≡ i) × (y ≡ j)) → ¬ ((x ≡ j) × (y ≡ i)) → pair_of (slice_index_or fs x d) y ≡ pair_of (slice_index_or es x d) y
    pub exact : (d : Ends T) → IsExact (slice_index_or fs i d) (slice_index_or fs j d)
