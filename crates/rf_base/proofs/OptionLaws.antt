-- Values that are there under a test, and what holds of them.
use Rattle.std.proofs.Common.{◌≡◌, Bool, true, refl, sym, subst, false, cond, is_some, Some, None, if◌then◌else◌, IfSome, option_and_then, option_map}
use Rattle.std.specs.declared.option.Option.{Option}

pub if_true : {A : Type 0} (t : Bool) (x : A) → t ≡ true → (if t then Some x else None) ≡ Some x
if_true t x e = subst (λ (b : Bool). (if b then Some x else None) ≡ Some x) (sym e) refl

pub some_when : {A : Type 0} (t : Bool) (x y : A) → (if t then Some x else None) ≡ Some y → (t ≡ true) × (x ≡ y)
some_when true x y e = (refl, cc)
some_when false x y e = cc

pub some_cond : {X : Type 0} (b : Bool) (x : X) → is_some (cond b (Some x) None) ≡ b
some_cond true x = refl
some_cond false x = refl

pub if_any : {A B : Type 0} (next : A → Option B) (Q : B → Type 0) (o : Option A) → ((x : A) → IfSome (next x) Q) → IfSome (option_and_then next o) Q
if_any next Q None k = tt
if_any next Q (Some x) k = k x

pub if_found : {A B : Type 0} (next : A → Option B) (P : A → Type 0) (Q : B → Type 0) (o : Option A) → IfSome o P → ((x : A) → P x → IfSome (next x) Q) → IfSome (option_and_then next o) Q
if_found next P Q None h k = tt
if_found next P Q (Some x) h k = k x h

pub if_map : {A B : Type 0} (f : A → B) (P : B → Type 0) (o : Option A) → IfSome o (λ x. P (f x)) → IfSome (option_map f o) P
if_map f P None h = tt
if_map f P (Some x) h = h
