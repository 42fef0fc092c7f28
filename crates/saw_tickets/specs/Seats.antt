-- What a seat knows of each queue: first of its own, then of each other.
use Rattle.std.specs.Prelude.{true, false, ◌≡◌, ◌<◌, ℕ, List, [], ◌∷◌, ◌++◌, map, length, slice_set, slice_index_or, take, drop, ◌+◌}
use Rattle.crossbeam_deque.specs.Handles.{view, worker_view, worker_deque, stealer_deque}
use Rattle.atomic_blocks.specs.Lent.{RowsId}
use Rattle.std.specs.declared.alloc.Global.{Global}
use Rattle.saw_context.specs.declared.job.Job.{Job}
use Rattle.saw_tickets.specs.declared.rule.Numbered.{Numbered}
use Rattle.saw_tickets.specs.declared.rule.View.{View}
use Rattle.saw_tickets.specs.declared.neighbor.Neighbor.{Neighbor}
use Rattle.saw_tickets.specs.declared.seat.Seat.{Seat}
use Rattle.saw_tickets.specs.TicketHistory.{MayBeEmpty, alone, knows, numbered, once_below, places, times}

-- what the pass of a way into a queue knows
abbrev pub known_by : Neighbor → View
known_by n = view n.pass

-- the queue that a way leads to
abbrev pub leads_to : Neighbor → RowsId × Global
leads_to n = stealer_deque n.thief

-- the queue of the seat
abbrev pub own_queue : Seat → RowsId × Global
own_queue s = worker_deque s.own

abbrev pub other_views : List Neighbor → List View
other_views ns = map (λ n. view n.pass) ns

abbrev pub views_of : Seat → List View
views_of s = worker_view s.own ∷ other_views s.others.items

-- which queue each of the passes belongs to
abbrev pub queues_of : Seat → List (RowsId × Global)
queues_of s = worker_deque s.own ∷ map (λ n. stealer_deque n.thief) s.others.items

abbrev pub other_queues : List Neighbor → List (RowsId × Global)
other_queues ns = map (λ n. stealer_deque n.thief) ns

abbrev pub capacity_of : Seat → ℕ
capacity_of s = s.capacity

-- how many jobs the first view has issued
abbrev pub issued_by : List View → ℕ
issued_by [] = 0
issued_by (own ∷ others) = length own.issued

-- a job was issued to the own queue, and nothing else changed
abbrev pub IssuesJob : List View → List View → Job → Type 0
IssuesJob [] new job = ⊥
IssuesJob (own ∷ others) new job = new ≡ record own { issued = own.issued ++ job ∷ [] } ∷ others

-- what another pass has claimed of the own queue was taken in, and nothing else changed
abbrev pub Retires : List View → List View → View → Type 0
Retires [] new guest = ⊥
Retires (own ∷ others) new guest = new ≡ record own { claimed = own.claimed ++ guest.claimed } ∷ others

abbrev pub with_claimed : View → Numbered → View
with_claimed v e = record v { claimed = v.claimed ++ e ∷ [] }

-- an entry was added to what was claimed from the queue t, and nothing else changed
abbrev pub ClaimsEntry : List View → List View → Numbered → Type 0
ClaimsEntry old new e = (t : ℕ) × (t < length old) × (new ≡ slice_set old t (with_claimed (slice_index_or old t (knows [] [])) e))

-- the same for a job, under some number
abbrev pub ClaimsJob : List View → List View → Job → Type 0
ClaimsJob old new job = (place : ℕ) × ClaimsEntry old new (numbered place job)

-- a job was claimed of the own queue, under some number, and nothing else changed
abbrev pub ClaimsOwn : List View → List View → Job → Type 0
ClaimsOwn [] new job = ⊥
ClaimsOwn (own ∷ others) new job = (place : ℕ) × (new ≡ with_claimed own (numbered place job) ∷ others)

-- nothing was claimed, and the rule of the own queue allows what is known of it beside an empty queue
abbrev pub FindsNoOwn : List View → List View → Type 0
FindsNoOwn [] new = ⊥
FindsNoOwn (own ∷ others) new = (new ≡ own ∷ others) × MayBeEmpty own

-- nothing was claimed, and the rule of each queue allows what is known of it beside an empty queue
abbrev pub FindsNone : List View → List View → Type 0
FindsNone old new = (new ≡ old) × ((t : ℕ) → t < length old → MayBeEmpty (slice_index_or old t (knows [] [])))

-- where the own queue has no other pass, each job that was issued to it was claimed, once
abbrev pub HasClaimedAlone : List View → Type 0
HasClaimedAlone [] = ⊥
HasClaimedAlone (own ∷ others) = own.shared ≡ false → (p : ℕ) → times p (places own.claimed) ≡ once_below p (length own.issued)

-- the own queue may have other passes from now on
abbrev pub shares_own : List View → List View
shares_own [] = []
shares_own (own ∷ others) = record own { shared = true } ∷ others

-- the queue of each seat
abbrev pub deques : List Seat → List (RowsId × Global)
deques ss = map (λ s. worker_deque s.own) ss

-- the seat knows one more queue, of which it has claimed nothing, and its own may have other passes
abbrev pub Meets : RowsId × Global → Seat → Seat → Type 0
Meets q s s' =
    (queues_of s' ≡ queues_of s ++ q ∷ []) × (views_of s' ≡ shares_own (views_of s) ++ knows [] [] ∷ []) × (capacity_of s' ≡ capacity_of s)

abbrev pub AllMeet : RowsId × Global → List Seat → List Seat → Type 0
AllMeet q ss ts = (i : ℕ) (d : Seat) → i < length ss → Meets q (slice_index_or ss i d) (slice_index_or ts i d)

-- what a seat that knows no other knows once it has met these
abbrev pub after_meeting : List Seat → List View → List View
after_meeting [] views = views
after_meeting (seat ∷ seats) views = shares_own views ++ map (λ _. knows [] []) (seat ∷ seats)

-- the elements but the one at i
abbrev pub others_at : {A : Type 0} → ℕ → List A → List A
others_at i xs = take i xs ++ drop (i + 1) xs

-- what each of so many seats knows at first: nothing was issued or claimed, and a single seat has the only pass of its queue
abbrev pub first_views : List Seat → List View
first_views [] = []
first_views (seat ∷ []) = alone [] [] ∷ []
first_views (seat ∷ other ∷ seats) = map (λ _. knows [] []) (seat ∷ other ∷ seats)

-- each seat has its own queue and then each other one in order, may issue so many jobs, and nothing was issued or claimed
abbrev pub IsPool : ℕ → List Seat → Type 0
IsPool capacity ss = (i : ℕ) (d : Seat) → i < length ss
    → (queues_of (slice_index_or ss i d) ≡ own_queue (slice_index_or ss i d) ∷ others_at i (deques ss))
    × (views_of (slice_index_or ss i d) ≡ first_views ss)
    × (capacity_of (slice_index_or ss i d) ≡ capacity)
