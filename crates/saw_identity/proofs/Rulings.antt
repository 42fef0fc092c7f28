-- What policies and roles that are kept say of signers, and what a judgement has of them.
use Rattle.std.proofs.Common.{◌≡◌, ℕ, ◌+◌, ◌<◌, Bool, true, false, cond, List, [], ◌∷◌, length, get_or, drop, map, Option, Some, None, option_map, Result, IfOk, IfSome, nat_lt, codes, refl, sym, ap, subst, ◌∙◌, add-one}
use Rattle.std.specs.BTreeMap.{is_at}
use Rattle.std.specs.BTreeSet.{BTreeSet, contains}
use Rattle.std.specs.Cmp.Lexicographic.{slice_cmp}
use Rattle.std.specs.List.{find, list_any, position, position_or_len, slice_get}
use Rattle.std.specs.Map.{lookup}
use Rattle.std.specs.Option.{option_or}
use Rattle.std.specs.Ordering.{nat_cmp}
use Rattle.std.specs.Str.{bytes_eq}
use Rattle.std.proofs.Math.ListN.{get_or-map}
use Rattle.std.proofs.lemmas.Bool.{ltb-false}
use Rattle.std.proofs.lemmas.List.{drop_more, length-map}
use Rattle.std.proofs.lemmas.List.Folds.{find_at}
use Rattle.std.proofs.lemmas.List.Quantifiers.{position-Some}
use Rattle.std.proofs.lemmas.Slice.Eq.{bytes_eq-Decides}
use Rattle.std.proofs.lemmas.Map.Text.{is_eq-slice_cmp}
use Rattle.std.proofs.lemmas.Option.{slice_get-get_or, slice_get_past}
use Rattle.std.proofs.lemmas.Result.{IfOk-weaker}
use Rattle.saw_address.specs.Maps.{StateMap, value_at}
use Rattle.saw_checks.specs.declared.policy.PolicyFault.{PolicyFault}
use Rattle.saw_messages.specs.TxShapes.{BatchShape, TxShape}
use Rattle.saw_identity.specs.Addresses.{policy_address, role_address}
use Rattle.saw_identity.specs.Permissions.{Standing, denied_by, fault, fault_by, for_batches, for_transactions, named, policy_by, policy_kept, policy_of, role_kept, role_policy, txs_denied}
use Rattle.saw_identity.specs.Standing.{AreKnown, ArePermitted, IsKnown, Tells, answer, family_role, for_all, for_all_transactions, kept_for, own_ruling, ruled, ruling, tx_fault}
use Rattle.saw_identity.specs.declared.permissions.Judged.{Judged}
use Rattle.saw_identity.specs.declared.permissions.Known.{Known}
use Rattle.saw_identity.specs.declared.policy.Policy.{Policy}
use Rattle.saw_identity.specs.declared.role.Role.{Role}
use Rattle.saw_identity.specs.declared.ruling.Ruling.{Ruling}

-- ---- the first of a name

-- the place that was found
place_of_first : {A : Type 0} (p : A → Bool) (xs : List A) (place : ℕ) → position p xs ≡ Some place → position_or_len p xs ≡ place
place_of_first p xs place found = go (nat_lt (position_or_len p xs) (length xs)) found
  where
    go : (b : Bool) → cond b (Some (position_or_len p xs)) None ≡ Some place → position_or_len p xs ≡ place
    go true e = (cc)
    go false e = (cc)

-- nothing was found, and nothing stands there
past : {A : Type 0} (p : A → Bool) (xs : List A) → position p xs ≡ None → slice_get xs (position_or_len p xs) ≡ None
past p xs nowhere = slice_get_past xs (position_or_len p xs) (ltb-false (position_or_len p xs) (length xs) (go (nat_lt (position_or_len p xs) (length xs)) nowhere))
  where
    go : (b : Bool) → cond b (Some (position_or_len p xs)) None ≡ None → b ≡ false
    go true e = (cc)
    go false e = refl

module _ {A : Type 0} (name_of : A → List ℕ) (name : List ℕ) where
  -- it is std's search
  named-find : (items : List A) → named name_of name items ≡ find (λ item. bytes_eq (name_of item) name) items
  named-find [] = refl
  named-find (item ∷ items) = ap (cond (bytes_eq (name_of item) name) (Some item)) (named-find items)

  -- by its place
  pub named_at : (items : List A) (place : ℕ) (item : A) → item ≡ get_or items place item → position (λ one. bytes_eq (name_of one) name) items ≡ Some place
      → Some item ≡ named name_of name items
  named_at items place item is found =
      let there = position-Some (λ one. bytes_eq (name_of one) name) items place item found in
      let first : position_or_len (λ one. bytes_eq (name_of one) name) items ≡ place = place_of_first (λ one. bytes_eq (name_of one) name) items place found in
      sym (named-find items ∙ find_at (λ one. bytes_eq (name_of one) name) items ∙ ap (slice_get items) first ∙ slice_get-get_or items place item there.0 ∙ ap Some (sym is))

  pub named_nowhere : (items : List A) → position (λ one. bytes_eq (name_of one) name) items ≡ None → None ≡ named name_of name items
  named_nowhere items nowhere = sym (named-find items ∙ find_at (λ one. bytes_eq (name_of one) name) items ∙ past (λ one. bytes_eq (name_of one) name) items nowhere)

-- ---- what decides

-- a role that stands decides before the others
pub ruled_first : (t : Option ℕ) (signer : List ℕ) (number : ℕ) (policy : Option Policy) (others : Option Ruling) (standings : List Standing)
    → ruled t signer others ≡ option_map (fault_by t) (denied_by signer standings)
    → ruled t signer (option_or (ruling number policy) others) ≡ option_map (fault_by t) (denied_by signer ((number, policy) ∷ standings))
ruled_first t signer number None others standings same = same
ruled_first t signer number (Some policy) others standings same = refl

-- the last one decides alone
pub ruled_last : (t : Option ℕ) (signer : List ℕ) (number : ℕ) (policy : Option Policy)
    → ruled t signer (ruling number policy) ≡ option_map (fault_by t) (denied_by signer ((number, policy) ∷ []))
ruled_last t signer number None = refl
ruled_last t signer number (Some policy) = refl

-- two roles before others
three : (t : Option ℕ) (signer : List ℕ) (first second : ℕ) (policy other : Option Policy) (others : Option Ruling) (standings : List Standing)
    → ruled t signer others ≡ option_map (fault_by t) (denied_by signer standings)
    → ruled t signer (option_or (ruling first policy) (option_or (ruling second other) others))
    ≡ option_map (fault_by t) (denied_by signer ((first, policy) ∷ (second, other) ∷ standings))
three t signer first second policy other others standings same =
    ruled_first t signer first policy (option_or (ruling second other) others) ((second, other) ∷ standings)
    (ruled_first t signer second other others standings same)

-- for a transaction: the role of its family, the one of all transactions, and the one of all
tx_ruled : (m : StateMap) (t : ℕ) (tx : TxShape)
    → ruled (Some t) tx.header.signer_public_key (option_or (own_ruling m tx.header.family_name) (option_or (for_all_transactions m) (for_all m))) ≡ tx_fault m t tx
tx_ruled m t tx =
    let signer = tx.header.signer_public_key in
    let family = role_policy m (family_role tx.header.family_name) in
    let second = role_policy m (codes "transactor.transaction_signer") in
    let both = role_policy m (codes "transactor") in
    let default = policy_of m (codes "default") in
    three (Some t) signer 1 2 family second (for_all m) ((4, both) ∷ (5, default) ∷ [])
    (ruled_first (Some t) signer 4 both (ruling 5 default) ((5, default) ∷ []) (ruled_last (Some t) signer 5 default))

-- the same of what was kept
pub tx_ruled_by : {E : Type 0} (m : StateMap) (t : ℕ) (tx : TxShape) (signer : List ℕ) (own transactions all : Option Ruling)
    (r : Result (Option PolicyFault) E) → own ≡ own_ruling m tx.header.family_name → transactions ≡ for_all_transactions m → all ≡ for_all m
    → signer ≡ tx.header.signer_public_key → IfOk r (λ found. found ≡ ruled (Some t) signer (option_or own (option_or transactions all)))
    → IfOk r (λ found. found ≡ tx_fault m t tx)
tx_ruled_by m t tx signer own transactions all r is_own is_second is_all is_signer told =
    IfOk-weaker r _ _ (λ found e. e ∙ rw (is_own, is_second, is_all, is_signer) (tx_ruled m t tx)) told

-- ---- who is permitted

-- nothing was made of nothing
none_of : {A B : Type 0} (f : A → B) (x : Option A) → option_map f x ≡ None → x ≡ None
none_of f None e = refl
none_of f (Some x) e = (cc)

-- who is not denied for a transaction is permitted for its family
pub permitted : (m : StateMap) (t : ℕ) (tx : TxShape) (signer family : List ℕ) → signer ≡ tx.header.signer_public_key → family ≡ tx.header.family_name
    → tx_fault m t tx ≡ None → denied_by signer (for_transactions m family) ≡ None
permitted m t tx signer family is_signer is_family none = rw (is_signer, is_family) (none_of (fault_by (Some t)) _ none)

-- the same of a signer that was permitted before
pub permitted_before : (m : StateMap) (t : ℕ) (tx : TxShape) (known : Known) → IsKnown m tx.header.family_name known
    → contains (slice_cmp nat_cmp) known.permitted tx.header.signer_public_key ≡ true → tx_fault m t tx ≡ None
permitted_before m t tx known is has = ap (option_map (fault_by (Some t))) (is.permitted tx.header.signer_public_key has)

-- ---- what is known of families

-- a look-up finds the key itself
is_key : (key q : List ℕ) → is_at (slice_cmp nat_cmp key) q ≡ true → key ≡ q
is_key key q e = (bytes_eq-Decides key q).0 (sym (is_eq-slice_cmp key q) ∙ e)

-- where there are no signers, each is permitted
pub none_permitted : (standings : List Standing) (signers : BTreeSet (List ℕ)) → signers.keys ≡ [] → ArePermitted standings signers
none_permitted standings signers empty = λ signer has. absurd (go signers.keys empty signer has)
  where
    go : (keys : List (List ℕ)) → keys ≡ [] → (signer : List ℕ) → list_any (is_at (slice_cmp nat_cmp signer)) keys ≡ true → ⊥
    go [] e signer has = (cc)
    go (key ∷ keys) e signer has = (cc)

-- one more signer that is permitted
pub one_permitted : (standings : List Standing) (key : List ℕ) (old new : BTreeSet (List ℕ)) → denied_by key standings ≡ None
    → ArePermitted standings old
    → ((q : List ℕ) → contains (slice_cmp nat_cmp) new q ≡ cond (is_at (slice_cmp nat_cmp key) q) true (contains (slice_cmp nat_cmp) old q))
    → ArePermitted standings new
one_permitted standings key old new none are updates = λ q has. go q (is_at (slice_cmp nat_cmp key) q) refl (sym (updates q) ∙ has)
  where
    go : (q : List ℕ) (b : Bool) → is_at (slice_cmp nat_cmp key) q ≡ b → cond b true (contains (slice_cmp nat_cmp) old q) ≡ true
        → denied_by q standings ≡ None
    go q true e has = subst (λ (signer : List ℕ). denied_by signer standings ≡ None) (is_key key q e) none
    go q false e has = are q has

-- what is kept of one family is known
pub known_kept : (m : StateMap) (old new : List (List ℕ × Known)) (key family : List ℕ) (known : Known) → key ≡ family → AreKnown m old
    → IsKnown m family known
    → ((q : List ℕ) → lookup (is_at (slice_cmp nat_cmp q)) new ≡ cond (is_at (slice_cmp nat_cmp key) q) (Some known) (lookup (is_at (slice_cmp nat_cmp q)) old))
    → AreKnown m new
known_kept m old new key family known same are is updates = λ q.
    subst (λ (found : Option Known). IfSome found (IsKnown m q)) (sym (updates q)) (go q (is_at (slice_cmp nat_cmp key) q) refl)
  where
    go : (q : List ℕ) (b : Bool) → is_at (slice_cmp nat_cmp key) q ≡ b → IfSome (cond b (Some known) (kept_for old q)) (IsKnown m q)
    go q true e = subst (λ (name : List ℕ). IsKnown m name known) (sym same ∙ is_key key q e) is
    go q false e = are q

-- what was found of a family is known
pub known_found : (m : StateMap) (families : List (List ℕ × Known)) (name family : List ℕ) (known : Known) → name ≡ family → AreKnown m families
    → Some known ≡ kept_for families name → IsKnown m family known
known_found m families name family known same are found =
    subst (λ (one : List ℕ). IsKnown m one known) same
    (subst (λ (kept : Option Known). IfSome kept (IsKnown m name)) (sym found) (are name))

-- ---- transactions in order

module _ {A : Type 0} (m : StateMap) (v : A → TxShape) (raw : List A) (t : ℕ) (x : A) (tx : TxShape) (more : t < length raw)
    (here : x ≡ get_or raw t x) (is : tx ≡ v x) (so_far : txs_denied m t (drop t (map v raw)) ≡ txs_denied m 0 (map v raw)) where
  -- what is seen of the transaction at the place
  there : v x ≡ get_or (map v raw) t (v x)
  there = sym (get_or-map v raw t x ∙ ap v (sym here))

  cut : txs_denied m t (drop t (map v raw)) ≡ option_or (tx_fault m t tx) (txs_denied m (t + 1) (drop (t + 1) (map v raw)))
  cut = ap (txs_denied m t) (drop_more (map v raw) t (v x) (subst (λ n. t < n) (sym (length-map raw v)) more) ∙ ap (λ one. one ∷ drop (t + 1) (map v raw)) (sym there ∙ sym is)) ∙ rw (add-one t) refl

  -- the first that is denied is told
  pub denied_here : (e : PolicyFault) → tx_fault m t tx ≡ Some e → Some e ≡ txs_denied m 0 (map v raw)
  denied_here e denied = ap (λ found. option_or found (txs_denied m (t + 1) (drop (t + 1) (map v raw)))) (sym denied) ∙ sym cut ∙ so_far

  -- behind one that is permitted the others are asked
  pub permitted_here : tx_fault m t tx ≡ None → txs_denied m (t + 1) (drop (t + 1) (map v raw)) ≡ txs_denied m 0 (map v raw)
  permitted_here none = ap (λ found. option_or found (txs_denied m (t + 1) (drop (t + 1) (map v raw)))) (sym none) ∙ sym cut ∙ so_far

-- where the batch's signer is permitted, the first denial of a transaction is the fault
pub fault_in_txs : (m : StateMap) (signer : List ℕ) (before : List BatchShape) (batch : BatchShape) (by : List ℕ) (txs : List TxShape) (found : Option PolicyFault)
    → by ≡ batch.signer → txs ≡ batch.txs → option_map (fault_by None) (denied_by by (for_batches m)) ≡ None → found ≡ txs_denied m 0 txs
    → found ≡ fault m signer before batch
fault_in_txs m signer before batch by txs found is_by are none told =
    told ∙ rw (← is_by, none, ← are) refl

-- ---- what is read of the state

-- the ruling of a role, by what its address has
pub ruling_is : (m : StateMap) (number : ℕ) (name at : List ℕ) (found : Option (List ℕ)) (role : Option Role) (own : Option Ruling) → at ≡ role_address name
    → found ≡ value_at m at → role ≡ role_kept name found → own ≡ ruling number (policy_by m role) → own ≡ ruling number (role_policy m name)
ruling_is m number name at found role own is_at is_found is_role is_own =
    is_own ∙ ap (λ one. ruling number (policy_by m one)) (is_role ∙ ap (role_kept name) (is_found ∙ ap (value_at m) is_at))

-- the ruling of a family, whose role is asked for by its name
pub family_ruling : (m : StateMap) (name text other at : List ℕ) (found : Option (List ℕ)) (role : Option Role) (own : Option Ruling) (asked tx : TxShape)
    → name ≡ family_role asked.header.family_name → text ≡ name → other ≡ name → at ≡ role_address text → found ≡ value_at m at
    → role ≡ role_kept other found → own ≡ ruling 1 (policy_by m role) → asked ≡ tx → own ≡ own_ruling m tx.header.family_name
family_ruling m name text other at found role own asked tx is_name is_text is_other is_at is_found is_role is_own same =
    ruling_is m 1 (family_role asked.header.family_name) at found role own (is_at ∙ ap role_address (is_text ∙ is_name)) is_found
    (is_role ∙ ap (λ one. role_kept one found) (is_other ∙ is_name)) is_own
    ∙ ap (λ (one : TxShape). own_ruling m one.header.family_name) same

-- the role of all, or else the policy `default`
pub all_is : (m : StateMap) (all transactor last : Option Ruling) (default : Option Policy) (at : List ℕ) (found : Option (List ℕ))
    → all ≡ option_or transactor last → transactor ≡ ruling 4 (role_policy m (codes "transactor")) → last ≡ ruling 5 default
    → default ≡ policy_kept (codes "default") found → found ≡ value_at m at → at ≡ policy_address (codes "default") → all ≡ for_all m
all_is m all transactor last default at found is_all is_transactor is_last is_default is_found is_at =
    let kept = is_default ∙ ap (policy_kept (codes "default")) (is_found ∙ ap (value_at m) is_at) in
    is_all ∙ ap (λ first. option_or first last) is_transactor
    ∙ ap (option_or (ruling 4 (role_policy m (codes "transactor")))) (is_last ∙ ap (ruling 5) kept)

-- ---- what a judgement tells

-- what was found is told
pub tells_of : (m : StateMap) (t : ℕ) (tx : TxShape) (found : Option PolicyFault) (told : Judged) → told ≡ answer found → found ≡ tx_fault m t tx → Tells m t tx told
tells_of m t tx None told is same = subst (Tells m t tx) (sym is) (sym same)
tells_of m t tx (Some e) told is same = subst (Tells m t tx) (sym is) (sym same)
