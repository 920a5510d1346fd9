-- What the kit answers where segments are not loaded.
use Rattle.bk_machine.specs.declared.load_fault.LoadFault.{LoadFault}
use Rattle.bk_machine.specs.declared.load_fault.LoadFault.TheVariants as load
use Rattle.bk_filters.specs.declared.kit_fault.KitFault.{KitFault}
use Rattle.bk_filters.specs.declared.kit_fault.KitFault.TheVariants.{TooSmall, NoStart, Memory}

abbrev pub load_refused : LoadFault → KitFault
load_refused load.TooSmall = TooSmall
load_refused load.NoStart = NoStart
load_refused load.Memory = Memory
