-- The laws of the layers below: those of sections and of formats, on which the plain code rests, and those of the states of a run.
use Rattle.bk_machine.specs.FormatLaws.{FormatIsOfParts}
use Rattle.bk_ocode.specs.StepLaws.{StepKeepsBelow}
use Rattle.bk_ocode.specs.SoundRuns.{FirstStateIsSound, StepsAreSound, ResumingIsSound, StepsGrow, EndsKeepBytes, StepsComeNearer}
use Rattle.bk_ocode.specs.SectionLaws.{LabelsAreSetOnce, LabelHasOnePlace, JumpFindsItsLabel, JumpHasItsLabelsDepth, DepthsSuffice, ResultFindsItsLabel, DataFindsItsLabel, ItemFindsItsLabel, GlobalFindsItsEntry, TextIsShort}

pub record Laws : Type 0 where
  pub set_once : LabelsAreSetOnce
  pub one_place : LabelHasOnePlace
  pub jump_finds : JumpFindsItsLabel
  pub jump_depth : JumpHasItsLabelsDepth
  pub suffice : DepthsSuffice
  pub result_finds : ResultFindsItsLabel
  pub data_finds : DataFindsItsLabel
  pub item_finds : ItemFindsItsLabel
  pub global_finds : GlobalFindsItsEntry
  pub short : TextIsShort
  pub formats : FormatIsOfParts

pub record RunLaws : Type 0 where
  pub first : FirstStateIsSound
  pub steps : StepsAreSound
  pub resuming : ResumingIsSound
  pub grow : StepsGrow
  pub ends : EndsKeepBytes
  pub keeps : StepKeepsBelow
  pub nearer : StepsComeNearer
