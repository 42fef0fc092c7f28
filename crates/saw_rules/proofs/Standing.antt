-- What a judgement under way has, behind one more batch.
use Rattle.std.proofs.Common.{◌≡◌, ℕ, List, [], ◌∷◌, ◌++◌, map, Option, None, Result, Ok, Err, IfOk, refl, ap, sym, ◌∙◌, append-nil}
use Rattle.std.specs.Prelude.{OnOk}
use Rattle.std.specs.Arc.{arc_value}
use Rattle.std.specs.Option.{option_or}
use Rattle.std.proofs.lemmas.Result.{IfOk-weaker}
use Rattle.std.proofs.lemmas.Grind.{flat_map-append}
use Rattle.saw_address.specs.Maps.{StateMap, value_at}
use Rattle.saw_settings.specs.Keys.{address_of}
use Rattle.saw_settings.specs.Settings.{setting_of, value_by}
use Rattle.saw_messages.specs.TxShapes.{BatchShape, TxShape}
use Rattle.saw_rules.specs.OnChainRules.{family_fault, rule_fault, rules_in, txs_in}
use Rattle.saw_rules.specs.Courses.{Stands, count_for}
use Rattle.saw_checks.specs.declared.policy.PolicyFault.{PolicyFault}
use Rattle.saw_rules.specs.declared.families.Family.{Family}
use Rattle.saw_rules.specs.declared.rule.Rule.{Rule}
use Rattle.saw_rules.specs.declared.onchain.OnChainRules.{OnChainRules}

-- the transactions of one more batch stand behind the earlier ones
pub txs_behind : (before : List BatchShape) (batch : BatchShape) (more : List TxShape) → batch.txs ≡ more → txs_in (before ++ batch ∷ []) ≡ txs_in before ++ more
txs_behind before batch more are = flat_map-append (λ (one : BatchShape). one.txs) before (batch ∷ [])
    ∙ ap (λ txs. txs_in before ++ txs) (append-nil batch.txs ∙ are)

pub stands_more : (old new : OnChainRules) (m : StateMap) (signer : List ℕ) (before : List BatchShape) (batch : BatchShape) (more : List TxShape)
    → Stands old m signer before → batch.txs ≡ more → new.families ≡ old.families → new.rules ≡ old.rules → new.signer ≡ old.signer
    → map arc_value new.txs.items ≡ map arc_value old.txs.items ++ more → new.counts.items ≡ map (count_for (txs_in before ++ more)) (rules_in m)
    → Stands new m signer (before ++ batch ∷ [])
stands_more old new m signer before batch more stands are families rules by txs counts = record {
  families = families ∙ stands.families;
  rules = rules ∙ stands.rules;
  signer = by ∙ stands.signer;
  txs = txs ∙ ap (λ earlier. earlier ++ more) stands.txs ∙ sym (txs_behind before batch more are);
  counts = counts ∙ ap (λ all. map (count_for all) (rules_in m)) (sym (txs_behind before batch more are));
}

-- the value of a setting, by what its address has
pub setting_is : (m : StateMap) (key : List ℕ) (found : Option (List ℕ)) → found ≡ value_at m (address_of key) → value_by key found ≡ setting_of m key
unfolding setting_of
setting_is m key found is = ap (value_by key) is

-- where no transaction is of another family, the first broken rule is the fault
pub fault_is : {E : Type 0} (families allowing : Option (List Family)) (rules listed : List Rule) (key signer : List ℕ) (earlier txs : List TxShape)
    (r : Result (Option PolicyFault) E) → families ≡ allowing → rules ≡ listed → key ≡ signer → family_fault families txs ≡ None
    → IfOk r (λ found. found ≡ rule_fault rules key earlier txs)
    → IfOk r (λ found. found ≡ option_or (family_fault allowing txs) (rule_fault listed signer earlier txs))
fault_is families allowing rules listed key signer earlier txs r same_families same_rules same_key none told =
    IfOk-weaker r _ _ (λ found e. e ∙ rw (← same_families, ← same_rules, ← same_key, none) refl) told

-- ---- what an `Ok` leaves

pub leaves : {A E : Type 0} (r : Result A E) (P Q : Type 0) → (P → Q) → OnOk r P → OnOk r Q
leaves (Ok x) P Q f p = f p
leaves (Err e) P Q f p = tt

pub leaves_if : {A E : Type 0} (r : Result A E) (C : A → Type 0) (P : Type 0) → OnOk r P → IfOk r (λ x. C x → P)
leaves_if (Ok x) C P p = λ so. p
leaves_if (Err e) C P p = tt

pub leaves_all : {A E : Type 0} (r : Result A E) (P : Type 0) → P → OnOk r P
leaves_all (Ok x) P p = p
leaves_all (Err e) P p = tt
