pub mod Failing
pub mod FaceLaws
pub mod RuleLaws
pub mod MixedLaws
