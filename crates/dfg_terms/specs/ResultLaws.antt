-- Laws with their proofs, not definitions that a reader must believe: how reading goes on, and what it says that it did.
use Rattle.std.proofs.Common.{◌≡◌, ℕ, ◌⊎◌, inl, inr, Bool, true, false, cond, List, Result, Ok, Err, refl, ap, ◌∙◌}
use Rattle.dfg_tokens.specs.declared.token.Token.{Token}
use Rattle.dfg_terms.specs.declared.fault.ReadFault.{ReadFault}
use Rattle.dfg_terms.specs.declared.fault.FaultKind.{FaultKind}
use Rattle.dfg_terms.specs.Reading.{◌>>=◌, refuse, fault}

pub bind_ok : {A B : Type 0} (r : Result A ReadFault) (f : A → Result B ReadFault) (y : B) → (r >>= f) ≡ Ok y → (x : A) × (r ≡ Ok x) × (f x ≡ Ok y)
bind_ok (Ok x) f y e = (x, refl, e)
bind_ok (Err d) f y e = absurd cc

pub chosen : {A : Type 0} (b : Bool) (x y z : A) → cond b x y ≡ z → ((b ≡ true) × (x ≡ z)) ⊎ ((b ≡ false) × (y ≡ z))
chosen true x y z e = inl (refl, e)
chosen false x y z e = inr (refl, e)

abbrev pub done : {A : Type 0} → A → Result A ReadFault
done x = Ok x

pub ok_is : {A : Type 0} (x y : A) → done x ≡ done y → x ≡ y
ok_is x y e = cc

pub refused_not : {A : Type 0} (k : FaultKind) (ts : List Token) (x : A) → refuse {A = A} k ts ≡ Ok x → ⊥
refused_not k ts x e = cc

pub fault_not : {A : Type 0} (at : ℕ) (k : FaultKind) (x : A) → fault {A = A} at k ≡ Ok x → ⊥
fault_not at k x e = cc

pub then_ok : {A B : Type 0} (r : Result A ReadFault) (x : A) (f : A → Result B ReadFault) (y : Result B ReadFault) → r ≡ Ok x → f x ≡ y → (r >>= f) ≡ y
then_ok r x f y e h = ap (λ q. q >>= f) e ∙ h

pub when_true : {A : Type 0} (b : Bool) (x y z : A) → b ≡ true → x ≡ z → cond b x y ≡ z
when_true b x y z e h = ap (λ q. cond q x y) e ∙ h

pub when_false : {A : Type 0} (b : Bool) (x y z : A) → b ≡ false → y ≡ z → cond b x y ≡ z
when_false b x y z e h = ap (λ q. cond q x y) e ∙ h
