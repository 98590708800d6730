-- What two facts tell together, as the program logic has it: the laws that only one outcome fits a contract rest on it. Assumes nothing.
use seplogic.Ra.Ura.{Ura}
use base.Logic.{SProp, ent, via, sep}
use contract.Monad.{conj, conj_l, conj_r, conj_mono, sep→conj, fact, fact_use, fact_mono}

pub both : {M : Type 1} (𝓤 : Ura M) (φ ψ χ : Type 0) → (φ → ψ → χ) → ent 𝓤 (conj 𝓤 (fact 𝓤 φ) (fact 𝓤 ψ)) (fact 𝓤 χ)
both 𝓤 φ ψ χ k =
    fact_use 𝓤 φ (conj_l 𝓤 (fact 𝓤 φ) (fact 𝓤 ψ)) (λ x. via 𝓤 (fact 𝓤 ψ) (conj_r 𝓤 (fact 𝓤 φ) (fact 𝓤 ψ)) (fact_mono 𝓤 ψ χ (k x)))

-- clauses side by side are one fact
beside : {M : Type 1} (𝓤 : Ura M) {P Q : SProp 𝓤} (φ ψ : Type 0) → ent 𝓤 P (fact 𝓤 φ) → ent 𝓤 Q (fact 𝓤 ψ) → ent 𝓤 (sep 𝓤 P Q) (fact 𝓤 (φ × ψ))
beside 𝓤 {P} {Q} φ ψ h k =
    via 𝓤 (conj 𝓤 P Q) (sep→conj 𝓤 P Q) (via 𝓤 (conj 𝓤 (fact 𝓤 φ) (fact 𝓤 ψ)) (conj_mono 𝓤 h k) (both 𝓤 φ ψ (φ × ψ) (λ x y. (x, y))))

one : {M : Type 1} (𝓤 : Ura M) (φ : Type 0) → ent 𝓤 (fact 𝓤 φ) (fact 𝓤 φ)
one 𝓤 φ = fact_mono 𝓤 φ φ (λ x. x)

pub two : {M : Type 1} (𝓤 : Ura M) (φ ψ : Type 0) → ent 𝓤 (sep 𝓤 (fact 𝓤 φ) (fact 𝓤 ψ)) (fact 𝓤 (φ × ψ))
two 𝓤 φ ψ = beside 𝓤 φ ψ (one 𝓤 φ) (one 𝓤 ψ)

pub three : {M : Type 1} (𝓤 : Ura M) (φ ψ χ : Type 0) → ent 𝓤 (sep 𝓤 (fact 𝓤 φ) (sep 𝓤 (fact 𝓤 ψ) (fact 𝓤 χ))) (fact 𝓤 (φ × (ψ × χ)))
three 𝓤 φ ψ χ = beside 𝓤 φ (ψ × χ) (one 𝓤 φ) (two 𝓤 ψ χ)

four : {M : Type 1} (𝓤 : Ura M) (φ ψ χ ω : Type 0)
    → ent 𝓤 (sep 𝓤 (fact 𝓤 φ) (sep 𝓤 (fact 𝓤 ψ) (sep 𝓤 (fact 𝓤 χ) (fact 𝓤 ω)))) (fact 𝓤 (φ × (ψ × (χ × ω))))
four 𝓤 φ ψ χ ω = beside 𝓤 φ (ψ × (χ × ω)) (one 𝓤 φ) (three 𝓤 ψ χ ω)

pub five : {M : Type 1} (𝓤 : Ura M) (φ ψ χ ω υ : Type 0)
    → ent 𝓤 (sep 𝓤 (fact 𝓤 φ) (sep 𝓤 (fact 𝓤 ψ) (sep 𝓤 (fact 𝓤 χ) (sep 𝓤 (fact 𝓤 ω) (fact 𝓤 υ))))) (fact 𝓤 (φ × (ψ × (χ × (ω × υ)))))
five 𝓤 φ ψ χ ω υ = beside 𝓤 φ (ψ × (χ × (ω × υ))) (one 𝓤 φ) (four 𝓤 ψ χ ω υ)
