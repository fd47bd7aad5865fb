mod Contents
mod Moments
