-- The same lists after two calls, one after the other.
use mathlib.Core.Path.{◌≡◌, ◌∙◌}

-- of a search
pub same_tree : {Name : Type 0} {a b c a' b' c' a'' b'' c'' : Name} → (a' ≡ a) × ((b' ≡ b) × (c' ≡ c)) → (a'' ≡ a') × ((b'' ≡ b') × (c'' ≡ c')) → (a'' ≡ a) × ((b'' ≡ b) × (c'' ≡ c))
same_tree p q = (q.0 ∙ p.0, (q.1.0 ∙ p.1.0, q.1.1 ∙ p.1.1))

-- of a pairing
pub same_pairs : {Name : Type 0} {a b c d a' b' c' d' a'' b'' c'' d'' : Name} → (a' ≡ a) × ((b' ≡ b) × ((c' ≡ c) × (d' ≡ d)))
    → (a'' ≡ a') × ((b'' ≡ b') × ((c'' ≡ c') × (d'' ≡ d'))) → (a'' ≡ a) × ((b'' ≡ b) × ((c'' ≡ c) × (d'' ≡ d)))
same_pairs p q = (q.0 ∙ p.0, same_tree p.1 q.1)
