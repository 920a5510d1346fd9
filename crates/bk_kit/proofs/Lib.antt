mod Terms
mod HintLemmas
mod OcodeLemmas
mod ShowLemmas
mod TraceLemmas
mod LineLemmas
mod Cuts
