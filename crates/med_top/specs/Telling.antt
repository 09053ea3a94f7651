-- What the user is told of a call's status.
use Rattle.std.specs.Prelude.{◌≡◌, ℕ, ◌⊎◌, take}
use Rattle.med_base.specs.declared.status.Status.{Status}
use Rattle.med_base.specs.declared.status.Status.TheVariants as status
use Rattle.med_prelude.specs.Counts.{Rose}
use Rattle.med_prelude.specs.Texts.{ToldBytes, told_with}
use Rattle.out_text.specs.FaultText.{fault_text}
use Rattle.med_top.specs.Members.{Change}

-- the sink gained the text of the status, or a prefix of it where the sink's count of faults rose
abbrev pub Tells : Change ToldBytes → Change ℕ → Status → Type 0
Tells written faults told = (written.new ≡ told_with written.old (fault_text told))
    ⊎ (Rose faults.old faults.new × ((n : ℕ) × (written.new ≡ told_with written.old (take n (fault_text told)))))

-- the status is the same and was told, or memory ran out
abbrev pub EndsTelling : Change ToldBytes → Change ℕ → Status → Status → Type 0
EndsTelling written faults old new = ((new ≡ old) × Tells written faults new) ⊎ (new ≡ status.NoMemory)
